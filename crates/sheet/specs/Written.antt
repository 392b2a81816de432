-- The written form of a sheet: what is accepted is exactly this.
use Rattle.std.specs.Prelude.{◌≡◌, ℕ, ◌<◌, ◌≤◌, true, false, ◌↔◌, List, [], ◌++◌, map, length, ℤ, pos, Some, None, Ok, codes, decimal, Option, slice_index_or}
use Rattle.std.specs.List.{flat_map}
use Rattle.std.specs.Fmt.{signed_decimal}
use Rattle.lines.specs.Lines.{line}
use Rattle.sheet.specs.Text.{good, quoted}
use Rattle.sheet.specs.Number.{InRange}
use Rattle.sheet.specs.Same.{same_text}
use Rattle.sheet.specs.Format.{Contents, lookup, sheet_of}

-- an ask as it is written: a number, or the text of a name
pub data Ask : Type 0 where
  figure : ℤ → Ask
  named : List ℕ → Ask

-- a sheet before its asks are resolved
pub record Source : Type 0 where
  pub style : List ℕ
  pub names : List (List ℕ)
  pub asks : List Ask

abbrev pub name_line : List ℕ → List ℕ
name_line t = line (codes "name=") (quoted t)

abbrev pub ask_text : Ask → List ℕ
ask_text (figure z) = signed_decimal z
ask_text (named t) = quoted t

abbrev pub ask_line : Ask → List ℕ
ask_line a = line (codes "ask=") (ask_text a)

abbrev pub encoded : Source → List ℕ
encoded s =
    line (codes "style=") (quoted s.style)
    ++ (line (codes "names=") (decimal (length s.names))
    ++ (flat_map name_line s.names
    ++ (line (codes "asks=") (decimal (length s.asks))
    ++ flat_map ask_line s.asks)))

-- what an ask stands for
abbrev pub or_zero : Option ℕ → ℤ
or_zero (Some i) = pos i
or_zero None = pos 0

abbrev pub resolved : List (List ℕ) → Ask → ℤ
resolved names (figure z) = z
resolved names (named t) = or_zero (lookup names t 0)

abbrev pub meant : Source → Contents
meant s = record { style = s.style; names = s.names; asks = map (resolved s.names) s.asks }

-- an ask is a number of 32 bits, or the text of one of the names
abbrev pub Answerable : List (List ℕ) → Ask → Type 0
Answerable names (figure z) = InRange z
Answerable names (named t) = (good t ≡ true) × ((i : ℕ) × (lookup names t 0 ≡ Some i))

-- what a sheet has to keep
pub record Fits (s : Source) : Type 0 where
  pub style_is_text : good s.style ≡ true
  pub few_names : length s.names ≤ 128
  pub names_are_texts : (i : ℕ) → i < length s.names → good (slice_index_or s.names i []) ≡ true
  pub no_two_same : (i j : ℕ) → i < j → j < length s.names → same_text (slice_index_or s.names i []) (slice_index_or s.names j []) ≡ false
  pub few_asks : length s.asks ≤ 128
  pub asks_answerable : (i : ℕ) → i < length s.asks → Answerable s.names (slice_index_or s.asks i (figure (pos 0)))

-- the bytes are the written form of a sheet that keeps its rules and says these contents
pub record Writes (bytes : List ℕ) (c : Contents) : Type 0 where
  pub source : Source
  pub bytes_are : bytes ≡ encoded source
  pub fits : Fits source
  pub says : c ≡ meant source

-- the accepted bytes are exactly the written forms of sheets
abbrev pub AcceptsExactly : List ℕ → Type 0
AcceptsExactly bytes = (c : Contents) → (sheet_of bytes ≡ Ok c) ↔ Writes bytes c
