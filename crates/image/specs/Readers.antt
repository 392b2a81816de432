-- Readers of words: what stands at a place of the words, with the place behind it, or why it is refused and where.
use Rattle.std.specs.Prelude.{ℕ, zero, suc, ◌+◌, cond, ◌&&◌, List, [], ◌∷◌, length, Ok, Err, Option, Result, ◌-◌, slice_get, nat_le, nat_lt, slice_index}
use Rattle.base.specs.declared.refusal.Cause.TheVariants.{NumberRange, RecordEnd}
use Rattle.base.specs.declared.refusal.Refusal.{Refusal}
use Rattle.base.specs.Refusals.{refused}

abbrev pub Read : Type 0 → Type 0
Read X = Result (X × ℕ) Refusal

abbrev pub Reader : Type 0 → Type 0
Reader X = List ℕ → ℕ → Read X

abbrev pub and_then : {X Y : Type 0} → Read X → (X → ℕ → Read Y) → Read Y
and_then (Ok p) f = f p.0 p.1
and_then (Err e) f = Err e

-- one reader after another, from the place behind the first
infixl 10 ◌>>=◌
abbrev pub ◌>>=◌ : {X Y : Type 0} → Reader X → (X → Reader Y) → Reader Y
◌>>=◌ r f words at = and_then (r words at) (λ x to. f x words to)

abbrev pub done : {X : Type 0} → X → Reader X
done x words at = Ok (x, at)

-- the place where a reader stands
abbrev pub here : Reader ℕ
here words at = Ok (at, at)

-- A number from low on and below the limit. A word that is not there is refused at the image's length, and one outside its range at its place.
abbrev pub number : ℕ → ℕ → Reader ℕ
number low limit words at =
    cond (nat_lt at (length words))
    (cond (nat_le low (slice_index words at) && nat_lt (slice_index words at) limit) (Ok (slice_index words at, at + 1)) (refused NumberRange at))
    (refused RecordEnd (length words))

-- a number from low to most
abbrev pub count : ℕ → ℕ → Reader ℕ
count low most = number low (most + 1)

-- n values one after another, each read under what those before it left
abbrev pub chain : {S X : Type 0} → (S → Reader X) → (S → X → S) → S → ℕ → Reader (List X)
chain item next s zero = done []
chain item next s (suc n) = do
  x ← item s
  xs ← chain item next (next s x) n
  done (x ∷ xs)

-- the last of some values
abbrev pub last_of : {X : Type 0} → List X → Option X
last_of xs = slice_get xs (length xs - 1)

-- the part of a value that is kept
abbrev pub kept : {X Y : Type 0} → (X → Y) → Read X → Read Y
kept f (Ok p) = Ok (f p.0, p.1)
kept f (Err e) = Err e

-- what was read, seen by a view, and the place behind it
abbrev pub answered : {X Y : Type 0} → (Y → X) → Result Y Refusal → ℕ → Read X
answered view (Ok y) to = Ok (view y, to)
answered view (Err e) to = Err e

-- a reader whose place alone is kept
abbrev pub passed : {X : Type 0} → Reader X → Reader (Unit {0})
passed r words at = kept (λ _. tt) (r words at)
