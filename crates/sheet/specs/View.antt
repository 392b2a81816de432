-- What a sheet that was read says.
use Rattle.std.specs.Prelude.{◌≡◌, ℕ, List, map, All, Result}
use Rattle.array_list.specs.Items.{items}
use Rattle.base.specs.Outcomes.{read_as}
use Rattle.base.specs.declared.refusal.Refusal.{Refusal}
use Rattle.sheet.specs.declared.sheet.Sheet.{Sheet}
use Rattle.sheet.specs.Format.{Contents}
use Rattle.sheet.specs.Parts.{IsPart}
use Rattle.sheet.specs.Text.{inner}
use Rattle.sheet.specs.Texts.{text_of}

-- the style and the names as they are written inside their outer quotes
abbrev pub written_style : Sheet → List ℕ
written_style s = s.style.written.now

abbrev pub written_names : Sheet → List (List ℕ)
written_names s = map (λ t. t.written.now) (items s.names)

abbrev pub view : Sheet → Contents
view s = record { style = text_of s.style; names = map text_of (items s.names); asks = items s.asks }

-- what is written are the written forms of the texts
pub record WellWritten (s : Sheet) : Type 0 where
  pub style : written_style s ≡ inner (view s).style
  pub names : written_names s ≡ map inner (view s).names

-- what is written stands in these bytes
pub record StandsIn (bytes : List ℕ) (s : Sheet) : Type 0 where
  pub style : IsPart bytes (written_style s)
  pub names : All (IsPart bytes) (written_names s)

-- what was read, or why it was refused
abbrev pub contents : Result Sheet Refusal → Result Contents Refusal
contents r = read_as view r
