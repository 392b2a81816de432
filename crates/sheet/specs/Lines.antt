-- A sheet written back line by line, every ask resolved to its number.
use Rattle.std.specs.Prelude.{◌≡◌, ℕ, List, ◌∷◌, ◌++◌, map, length, Ok, codes}
use Rattle.std.specs.List.{flat_map}
use Rattle.lines.specs.Lines.{text_line, count_line, number_line}
use Rattle.sheet.specs.declared.sheet.Sheet.{Sheet}
use Rattle.sheet.specs.Format.{sheet_of}
use Rattle.sheet.specs.View.{written_style, written_names, view}

abbrev pub name_lines_of : Sheet → List (List ℕ)
name_lines_of s = map (text_line (codes "name=")) (written_names s)

-- the count of asks, and the asks
abbrev pub asked_lines_of : Sheet → List (List ℕ)
asked_lines_of s = count_line (codes "asks=") (length (view s).asks) ∷ map (number_line (codes "ask=")) (view s).asks

-- the lines in the order of the format
abbrev pub lines_of : Sheet → List (List ℕ)
lines_of s =
    text_line (codes "style=") (written_style s)
    ∷ count_line (codes "names=") (length (view s).names)
    ∷ (name_lines_of s ++ asked_lines_of s)

-- what is written back is a sheet that says the same
abbrev pub SaysAgain : Sheet → Type 0
SaysAgain s = sheet_of (flat_map (λ l. l) (lines_of s)) ≡ Ok (view s)
