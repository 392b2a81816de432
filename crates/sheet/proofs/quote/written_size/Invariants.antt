use Rattle.sheet.proofs.Reading.{Reading}
use Rattle.sheet.proofs.quote.written_size.Given as goal

abbrev pub invariant-loop-n : goal.invariant-loop-n
invariant-loop-n l = Reading l.body l._n l.rest
