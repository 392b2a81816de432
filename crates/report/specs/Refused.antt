-- What is printed of a refusal.
use Rattle.std.specs.Prelude.{ℕ, List, [], ◌∷◌, codes}
use Rattle.base.specs.Refusals.{assigned}
use Rattle.base.specs.declared.refusal.Refusal.{Refusal}
use Rattle.lines.specs.Lines.{count_line}

-- its number, its layer and its place, each on a line of its own
abbrev pub refusal_lines : Refusal → List (List ℕ)
refusal_lines r =
    count_line (codes "refused=") (assigned r.cause).number
    ∷ count_line (codes "layer=") (assigned r.cause).layer
    ∷ count_line (codes "place=") r.place
    ∷ []
