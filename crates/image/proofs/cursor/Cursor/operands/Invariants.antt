use Rattle.image.proofs.Instructing.{Checking}
use Rattle.image.proofs.cursor.Cursor.operands.Given as goal

abbrev pub invariant-loop-operand : goal.invariant-loop-operand
invariant-loop-operand l = Checking l.operands l.operand-index l.fn.self l.self
