use Rattle.sheet.proofs.Writing.{Counting}
use Rattle.sheet.proofs.quote.quoted_size.Given as goal

abbrev pub invariant-loop-byte : goal.invariant-loop-byte
invariant-loop-byte l = Counting l.text l.byte-index l.size
