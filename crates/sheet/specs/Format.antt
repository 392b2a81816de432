-- The sheet: its lines in their order, and the first broken rule with its line.
use Rattle.std.specs.Prelude.{ℕ, zero, suc, ◌+◌, cond, List, [], ◌∷◌, ◌++◌, length, ℤ, pos, Some, None, Ok, Err, codes, Option, Result, ◌==◌, nat_le, slice_index}
use Rattle.base.specs.declared.refusal.Cause.{Cause}
use Rattle.base.specs.declared.refusal.Cause.TheVariants.{SheetLine, BadText, BadNumber, NameTwice, NameUnknown}
use Rattle.base.specs.declared.refusal.Refusal.{Refusal}
use Rattle.base.specs.Refusals.{refused}
use Rattle.sheet.specs.Text.{quoted}
use Rattle.sheet.specs.Quoted.{unquoted}
use Rattle.sheet.specs.Number.{natural, number}
use Rattle.sheet.specs.Same.{same_text}

-- what a sheet says
pub record Contents : Type 0 where
  pub style : List ℕ
  pub names : List (List ℕ)
  pub asks : List ℤ

-- where the reading stands: the number of the next line, from 1, and the bytes that are left
pub record Place : Type 0 where
  pub line : ℕ
  pub left : List ℕ

abbrev pub Next : Type 0 → Type 0
Next X = Result (X × Place) Refusal

infixl 10 ◌>>=◌
abbrev pub ◌>>=◌ : {X Y : Type 0} → Next X → (X → Place → Result Y Refusal) → Result Y Refusal
Ok p >>= f = f p.0 p.1
Err e >>= f = Err e

-- the bytes in front of the first byte 10, and those behind it
abbrev pub longer : ℕ → Option (List ℕ × List ℕ) → Option (List ℕ × List ℕ)
longer b (Some p) = Some (b ∷ p.0, p.1)
longer b None = None

abbrev pub cut : List ℕ → Option (List ℕ × List ℕ)
cut [] = None
cut (b ∷ bs) = cond (b == 10) (Some ([], bs)) (longer b (cut bs))

-- what stands behind a key, where the line begins with it
abbrev pub behind : List ℕ → List ℕ → Option (List ℕ)
behind [] line = Some line
behind (c ∷ cs) [] = None
behind (c ∷ cs) (b ∷ bs) = cond (b == c) (behind cs bs) None

-- a rest that is read ends its line; the cause of one that is not stands at its line
abbrev pub judged : {X : Type 0} → ℕ → List ℕ → Result X Cause → Next X
judged n left (Ok x) = Ok (x, record { line = n + 1; left = left })
judged n left (Err cause) = refused cause n

abbrev pub keyed : {X : Type 0} → (List ℕ → Result X Cause) → ℕ → List ℕ → Option (List ℕ) → Next X
keyed rest n left (Some bytes) = judged n left (rest bytes)
keyed rest n left None = refused SheetLine n

abbrev pub ended : {X : Type 0} → List ℕ → (List ℕ → Result X Cause) → ℕ → Option (List ℕ × List ℕ) → Next X
ended key rest n (Some p) = keyed rest n p.1 (behind key p.0)
ended key rest n None = refused SheetLine n

-- a line: its key and its byte 10 come first, then its whole rest
abbrev pub line : {X : Type 0} → List ℕ → (List ℕ → Result X Cause) → Place → Next X
line key rest p = ended key rest p.line (cut p.left)

-- a text: its quoted form, and nothing behind it
abbrev pub whole : List ℕ → Option (List ℕ) → Result (List ℕ) Cause
whole bytes (Some t) = cond (length (quoted t) == length bytes) (Ok t) (Err BadText)
whole bytes None = Err BadText

abbrev pub text : List ℕ → Result (List ℕ) Cause
text bytes = whole bytes (unquoted bytes)

-- a count: 0 to 128
abbrev pub few : Option ℕ → Result ℕ Cause
few (Some n) = cond (nat_le n 128) (Ok n) (Err BadNumber)
few None = Err BadNumber

abbrev pub count : List ℕ → Result ℕ Cause
count bytes = few (natural bytes)

-- the number of the first name that is the same text, where the names are counted from i
abbrev pub lookup : List (List ℕ) → List ℕ → ℕ → Option ℕ
lookup [] t i = None
lookup (n ∷ ns) t i = cond (same_text n t) (Some i) (lookup ns t (i + 1))

-- a name: a text that is the same as none before it
abbrev pub unless_known : List ℕ → Option ℕ → Result (List ℕ) Cause
unless_known t (Some i) = Err NameTwice
unless_known t None = Ok t

abbrev pub new : List (List ℕ) → Result (List ℕ) Cause → Result (List ℕ) Cause
new names (Ok t) = unless_known t (lookup names t 0)
new names (Err e) = Err e

abbrev pub name : List (List ℕ) → List ℕ → Result (List ℕ) Cause
name names bytes = new names (text bytes)

-- an ask: a quoted name, which stands for its number, or a number
abbrev pub known : Option ℕ → Result ℤ Cause
known (Some i) = Ok (pos i)
known None = Err NameUnknown

abbrev pub asked : List (List ℕ) → Result (List ℕ) Cause → Result ℤ Cause
asked names (Ok t) = known (lookup names t 0)
asked names (Err e) = Err e

abbrev pub figure : Option ℤ → Result ℤ Cause
figure (Some z) = Ok z
figure None = Err BadNumber

abbrev pub ask : List (List ℕ) → List ℕ → Result ℤ Cause
ask names bytes = cond (slice_index bytes 0 == 34) (asked names (text bytes)) (figure (number bytes))

abbrev pub with_name : Contents → List ℕ → Contents
with_name c t = record { style = c.style; names = c.names ++ t ∷ []; asks = c.asks }

abbrev pub with_ask : Contents → ℤ → Contents
with_ask c z = record { style = c.style; names = c.names; asks = c.asks ++ z ∷ [] }

-- the n asks that are left, and then no byte more
abbrev pub ask_lines : Contents → ℕ → Place → Result Contents Refusal
ask_lines c zero p = cond (length p.left == 0) (Ok c) (refused SheetLine p.line)
ask_lines c (suc n) p = line (codes "ask=") (ask c.names) p >>= λ z. ask_lines (with_ask c z) n

-- the n names that are left, and then the asks
abbrev pub name_lines : Contents → ℕ → Place → Result Contents Refusal
name_lines c zero p = line (codes "asks=") count p >>= ask_lines c
name_lines c (suc n) p = line (codes "name=") (name c.names) p >>= λ t. name_lines (with_name c t) n

abbrev pub names_line : Contents → Place → Result Contents Refusal
names_line c p = line (codes "names=") count p >>= name_lines c

abbrev pub titled : List ℕ → Contents
titled t = record { style = t; names = []; asks = [] }

-- a sheet
abbrev pub sheet_of : List ℕ → Result Contents Refusal
sheet_of bytes = line (codes "style=") text (record { line = 1; left = bytes }) >>= λ t. names_line (titled t)
