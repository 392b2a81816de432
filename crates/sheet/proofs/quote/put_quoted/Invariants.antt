use Rattle.sheet.proofs.Writing.{Writing}
use Rattle.sheet.proofs.quote.put_quoted.Given as goal

abbrev pub invariant-loop-byte : goal.invariant-loop-byte
invariant-loop-byte l = Writing l.fn.tail l.text l.byte-index l.tail l.next
