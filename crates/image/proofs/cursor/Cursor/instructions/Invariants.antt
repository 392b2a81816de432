use Rattle.std.proofs.Common.{ℕ, ◌-◌}
use Rattle.image.proofs.Instructing.{Turn}
use Rattle.image.proofs.cursor.Cursor.instructions.Given as goal

abbrev pub invariant-loop-self : goal.invariant-loop-self
invariant-loop-self l = (most : ℕ) × Turn l.end l.fn.self l.self most

abbrev pub decreases-loop-self : goal.decreases-loop-self
decreases-loop-self l = l.end - l.self.at
