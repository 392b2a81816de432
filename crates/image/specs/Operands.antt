-- The operands of an instruction, read for their places alone.
use Rattle.std.specs.Prelude.{List, [], ◌∷◌}
use Rattle.image.specs.declared.counts.Counts.{Counts}
use Rattle.image.specs.declared.operand.Operand.{Operand}
use Rattle.image.specs.Layout.{operand}
use Rattle.image.specs.Readers.{Reader, ◌>>=◌, done}

-- one behind the other
abbrev pub checked : Counts → List Operand → Reader (Unit {0})
checked n [] = done tt
checked n (o ∷ os) = operand n o >>= λ _. checked n os
