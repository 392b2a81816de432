-- Texts, and their quoted form.
use Rattle.std.specs.Prelude.{ℕ, Bool, true, false, cond, ◌&&◌, List, [], ◌∷◌, ◌++◌, length, ◌==◌, nat_le}
use Rattle.std.specs.List.{flat_map}

-- a byte that may stand in a text: 32 to 126
abbrev pub printable : ℕ → Bool
printable c = nat_le 32 c && nat_le c 126

abbrev pub all_printable : List ℕ → Bool
all_printable [] = true
all_printable (c ∷ cs) = printable c && all_printable cs

-- a text has 1 to 32 bytes, all printable
abbrev pub good : List ℕ → Bool
good text = (nat_le 1 (length text) && nat_le (length text) 32) && all_printable text

-- a byte of text as it is written: the quote, 34, is doubled
abbrev pub letter : ℕ → List ℕ
letter c = cond (c == 34) (34 ∷ 34 ∷ []) (c ∷ [])

-- what stands between the outer quotes
abbrev pub inner : List ℕ → List ℕ
inner text = flat_map letter text

abbrev pub quoted : List ℕ → List ℕ
quoted text = 34 ∷ (inner text ++ 34 ∷ [])

-- the text that is written: the second of two quotes is left out
abbrev pub single : Bool → List ℕ → List ℕ
single skip [] = []
single true (c ∷ cs) = single false cs
single false (c ∷ cs) = c ∷ single (c == 34) cs
