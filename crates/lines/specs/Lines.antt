-- A line of output: a key, what it says, byte 10.
use Rattle.std.specs.Prelude.{ℕ, List, [], ◌∷◌, ◌++◌, ℤ, decimal, flat_map}
use Rattle.std.specs.Borrow.{Bor}
use Rattle.std.specs.Fmt.{signed_decimal}

-- the bytes of the parts, one behind the other
abbrev pub joined : List (Bor (List ℕ)) → List ℕ
joined parts = flat_map (λ part. part.now) parts

abbrev pub line : List ℕ → List ℕ → List ℕ
line key rest = key ++ (rest ++ 10 ∷ [])

-- a written text between its outer quotes
abbrev pub text_line : List ℕ → List ℕ → List ℕ
text_line key written = line key (34 ∷ (written ++ 34 ∷ []))

-- a number from 0 up, in decimal
abbrev pub count_line : List ℕ → ℕ → List ℕ
count_line key n = line key (decimal n)

-- a signed number, in decimal
abbrev pub number_line : List ℕ → ℤ → List ℕ
number_line key z = line key (signed_decimal z)
