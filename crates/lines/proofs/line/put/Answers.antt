use Rattle.std.proofs.Common.{arith, length-append}
use Rattle.std.proofs.lemmas.Grind.{common_steps}
use Rattle.std.proofs.lemmas.List.{drop-drop, length-take-le}
use Rattle.lines.proofs.line.put.Goals as goal

pub returns-clause-change : goal.returns-clause-change
returns-clause-change c = grind (arith, common_steps, drop-drop, length-append, length-take-le)
