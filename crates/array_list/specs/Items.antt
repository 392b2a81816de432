-- What a list in an array holds, and what one value more makes of that.
use Rattle.std.specs.Prelude.{ℕ, cond, List, [], ◌∷◌, ◌++◌, length, take, nat_lt}
use Rattle.array_list.specs.declared.list.ArrayVec.{ArrayVec}

-- the values that it holds, first to last
abbrev pub items : {X : Type 0} {N : ℕ} → ArrayVec X N → List X
items v = take v.len v.slots

-- a value stands behind the others; n values are held at most, and one more is not taken
abbrev pub pushed : {X : Type 0} → ℕ → List X → X → List X
pushed n xs x = cond (nat_lt (length xs) n) (xs ++ x ∷ []) xs
