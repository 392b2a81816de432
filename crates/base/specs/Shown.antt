-- A refusal as it is printed in a line of text.
use Rattle.std.specs.Prelude.{ℕ, List, ◌++◌, codes, decimal}
use Rattle.base.specs.Refusals.{assigned}
use Rattle.base.specs.declared.refusal.Refusal.{Refusal}

-- its number, its layer and its place
abbrev pub shown : Refusal → List ℕ
shown r =
    codes "refused=" ++ (decimal (assigned r.cause).number
    ++ (codes " layer=" ++ (decimal (assigned r.cause).layer
    ++ (codes " place=" ++ decimal r.place))))
