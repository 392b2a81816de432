-- What is still to come of a sheet, by the section that the reading has reached.
use Rattle.std.specs.Prelude.{◌≡◌, ℕ, zero, suc, ◌+◌, ◌<◌, Bool, true, false, cond, List, length, Ok, Err, codes, Result, ◌==◌}
use Rattle.base.specs.declared.refusal.Cause.{Cause}
use Rattle.base.specs.declared.refusal.Cause.TheVariants.{SheetLine}
use Rattle.base.specs.declared.refusal.Refusal.{Refusal}
use Rattle.sheet.specs.declared.line.Key.{Key}
use Rattle.sheet.specs.declared.line.Key.TheVariants as key
use Rattle.sheet.specs.declared.section.Section.{Section}
use Rattle.sheet.specs.declared.section.Section.TheVariants.{Style, Names, Name, Asks, Ask, End}
use Rattle.sheet.specs.Format.{Contents, Place, ◌>>=◌, line, text, count, name, ask, with_name, with_ask, names_line, name_lines, ask_lines}

abbrev pub with_style : Contents → List ℕ → Contents
with_style c t = record { style = t; names = c.names; asks = c.asks }

-- so many names, or asks, are to come
abbrev pub names_left : ℕ → Section
names_left zero = Asks
names_left (suc more) = Name more

abbrev pub asks_left : ℕ → Section
asks_left zero = End
asks_left (suc more) = Ask more

-- what the rest of the sheet makes of the contents so far
abbrev pub outcome : Section → Contents → Place → Result Contents Refusal
outcome Style c p = line (codes "style=") text p >>= λ t. names_line (with_style c t)
outcome Names c p = names_line c p
outcome (Name more) c p = name_lines c (suc more) p
outcome Asks c p = name_lines c zero p
outcome (Ask more) c p = ask_lines c (suc more) p
outcome End c p = ask_lines c zero p

-- the section and the contents that a rest leads to
abbrev pub leads : {X : Type 0} → (X → Section) → (X → Contents) → Result X Cause → Result (Section × Contents) Cause
leads to says (Ok x) = Ok (to x, says x)
leads to says (Err cause) = Err cause

-- the rest of a line of the key that a section wants
abbrev pub says : Section → Contents → List ℕ → Result (Section × Contents) Cause
says Style c rest = leads (λ _. Names) (with_style c) (text rest)
says Names c rest = leads names_left (λ _. c) (count rest)
says (Name more) c rest = leads (λ _. names_left more) (with_name c) (name c.names rest)
says Asks c rest = leads asks_left (λ _. c) (count rest)
says (Ask more) c rest = leads (λ _. asks_left more) (with_ask c) (ask c.names rest)
says End c rest = Err SheetLine

abbrev pub key_number : Key → ℕ
key_number key.Style = 0
key_number key.Names = 1
key_number key.Name = 2
key_number key.Asks = 3
key_number key.Ask = 4

-- the number of the key that a section wants; the end wants none
abbrev pub wanted_number : Section → ℕ
wanted_number Style = 0
wanted_number Names = 1
wanted_number (Name more) = 2
wanted_number Asks = 3
wanted_number (Ask more) = 4
wanted_number End = 5

-- a line with this key in this section
abbrev pub judged_line : Section → Key → Contents → List ℕ → Result (Section × Contents) Cause
judged_line s k c rest = cond (key_number k == wanted_number s) (says s c rest) (Err SheetLine)

-- there is room for the lines that the section announces
abbrev pub Roomy : Section → Contents → Type 0
Roomy Style c = (length c.names ≡ 0) × (length c.asks ≡ 0)
Roomy Names c = (length c.names ≡ 0) × (length c.asks ≡ 0)
Roomy (Name more) c = (length c.names + more < 128) × (length c.asks ≡ 0)
Roomy Asks c = length c.asks ≡ 0
Roomy (Ask more) c = length c.asks + more < 128
Roomy End c = Unit {0}

-- the section that was answered, beside the contents that were left
abbrev pub moved : Result Section Cause → Contents → Result (Section × Contents) Cause
moved (Ok s) c = Ok (s, c)
moved (Err cause) c = Err cause

-- nothing is to come but the end
abbrev pub is_last : Section → Bool
is_last Style = false
is_last Names = false
is_last (Name more) = false
is_last Asks = false
is_last (Ask more) = false
is_last End = true
