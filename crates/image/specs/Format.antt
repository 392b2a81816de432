-- The format as an encoder: the words of a structure, and which structures may be written. An image is accepted exactly when it is written so.
use Rattle.std.specs.Prelude.{◌≡◌, ℕ, ◌+◌, ◌<◌, ◌≤◌, ◌↔◌, List, [], ◌∷◌, ◌++◌, map, length, drop, Ok, ◌≢◌}
use Rattle.std.specs.List.{flat_map, AllByRecursion}
use Rattle.base.specs.declared.ids.Label.{Label}
use Rattle.base.specs.declared.refusal.Cause.TheVariants.{RecordEnd}
use Rattle.base.specs.Refusals.{refused}
use Rattle.image.specs.declared.counts.Counts.{Counts}
use Rattle.image.specs.declared.instruction.Instruction.{Instruction}
use Rattle.image.specs.declared.instruction.Instruction.TheVariants.{Ret}
use Rattle.image.specs.declared.records.Pair.{Pair}
use Rattle.image.specs.declared.types.TypeCode.{TypeCode}
use Rattle.image.specs.Codes.{code_word, CodeFits}
use Rattle.image.specs.Encoded.{encoded, OperandsFit}
use Rattle.image.specs.Layout.{Method, Block, Table, Structure, layout}

-- ---- words

-- a count and that many type codes
abbrev pub values_words : List TypeCode → List ℕ
values_words cs = length cs ∷ map code_word cs

abbrev pub method_words : Method → List ℕ
method_words m = m.label.0 ∷ values_words m.codes

abbrev pub type_words : List Method → List ℕ
type_words ms = length ms ∷ flat_map method_words ms

abbrev pub code_words : List Instruction → List ℕ
code_words is = flat_map encoded is

abbrev pub block_words : Block → List ℕ
block_words b = values_words b.params ++ (values_words b.free ++ (length (code_words b.code) ∷ code_words b.code))

abbrev pub pair_words : Pair → List ℕ
pair_words p = p.label.0 ∷ p.block.0 ∷ []

abbrev pub table_words : Table → List ℕ
table_words t = length t.pairs ∷ flat_map pair_words t.pairs

-- types, blocks and tables, in this order
abbrev pub record_words : Structure → List ℕ
record_words s = flat_map type_words s.types ++ (flat_map block_words s.blocks ++ flat_map table_words s.tables)

-- five counts, the last of all words, and the records
abbrev pub image_words : Structure → List ℕ
image_words s =
    length s.types ∷ length s.blocks ∷ length s.tables ∷ s.names ∷ (5 + length (record_words s)) ∷ record_words s

-- ---- bounds

abbrev pub counts_of : Structure → Counts
counts_of s = record { types = length s.types; blocks = length s.blocks; tables = length s.tables; names = s.names }

-- at most most values, their types known
pub record ValuesFit (types most : ℕ) (cs : List TypeCode) : Type 0 where
  pub few : length cs ≤ most
  pub known : AllByRecursion (CodeFits types) cs

-- a label is a byte, from low on
pub record LabelFits (low : ℕ) (l : Label) : Type 0 where
  pub small : l.0 < 256
  pub rises : low ≤ l.0

pub record MethodFits (types low : ℕ) (m : Method) : Type 0 where
  pub label : LabelFits low m.label
  pub codes : ValuesFit types 8 m.codes

-- labels rise strictly
abbrev pub MethodsFit : ℕ → ℕ → List Method → Type 0
MethodsFit types low [] = Unit {0}
MethodsFit types low (m ∷ ms) = MethodFits types low m × MethodsFit types (m.label.0 + 1) ms

pub record TypeFits (types : ℕ) (ms : List Method) : Type 0 where
  pub few : length ms ≤ 16
  pub methods : MethodsFit types 0 ms

-- ret is the last instruction, and only the last
abbrev pub EndsByRet : List Instruction → Type 0
EndsByRet [] = ⊥
EndsByRet (i ∷ []) = i ≡ Ret
EndsByRet (i ∷ j ∷ is) = (i ≢ Ret) × EndsByRet (j ∷ is)

-- a block that stands at a word: it has at most so many values, and its code begins behind them and its length
pub record BlockFits (n : Counts) (most at : ℕ) (b : Block) : Type 0 where
  pub params : ValuesFit n.types most b.params
  pub free : ValuesFit n.types most b.free
  pub start : b.start ≡ at + length b.params + length b.free + 3
  pub short : length (code_words b.code) ≤ 1024
  pub operands : AllByRecursion (OperandsFit n) b.code
  pub ends : EndsByRet b.code

-- one block behind another, the first of them with at most so many values, the others with eight
abbrev pub BlocksFit : Counts → ℕ → ℕ → List Block → Type 0
BlocksFit n most at [] = Unit {0}
BlocksFit n most at (b ∷ bs) = BlockFits n most at b × BlocksFit n 8 (at + length (block_words b)) bs

pub record PairFits (blocks low : ℕ) (p : Pair) : Type 0 where
  pub label : LabelFits low p.label
  pub block : p.block.0 < blocks

abbrev pub PairsFit : ℕ → ℕ → List Pair → Type 0
PairsFit blocks low [] = Unit {0}
PairsFit blocks low (p ∷ ps) = PairFits blocks low p × PairsFit blocks (p.label.0 + 1) ps

-- a table that stands at a word: its pairs begin behind their number
pub record TableFits (blocks at : ℕ) (t : Table) : Type 0 where
  pub some : 1 ≤ length t.pairs
  pub few : length t.pairs ≤ 16
  pub start : t.start ≡ at + 1
  pub pairs : PairsFit blocks 0 t.pairs

abbrev pub TablesFit : ℕ → ℕ → List Table → Type 0
TablesFit blocks at [] = Unit {0}
TablesFit blocks at (t ∷ ts) = TableFits blocks at t × TablesFit blocks (at + length (table_words t)) ts

-- a structure within the bounds of the format
pub record Fits (s : Structure) : Type 0 where
  pub few_types : length s.types ≤ 64
  pub some_blocks : 1 ≤ length s.blocks
  pub few_blocks : length s.blocks ≤ 128
  pub few_tables : length s.tables ≤ 128
  pub few_names : s.names ≤ 128
  pub short : length (image_words s) ≤ 8192
  pub types : AllByRecursion (TypeFits (length s.types)) s.types
  pub blocks : BlocksFit (counts_of s) 0 (5 + length (flat_map type_words s.types)) s.blocks
  pub tables : TablesFit (length s.blocks) (5 + length (flat_map type_words s.types) + length (flat_map block_words s.blocks)) s.tables

-- the words are read as a structure exactly when they are its encoding and it fits
abbrev pub AcceptsExactly : List ℕ → Type 0
AcceptsExactly words = (s : Structure) → (layout words ≡ Ok s) ↔ ((words ≡ image_words s) × Fits s)

-- What the end of a record is refused for: a record is cut off, and the place is the image's length; or a whole structure is written, and the place is the first of the words behind it.
pub data EndsWrong (words : List ℕ) (place : ℕ) : Type 0 where
  cut_off : place ≡ length words → EndsWrong words place
  left_over : (s : Structure) → drop 5 words ≡ record_words s ++ drop place words → place ≡ 5 + length (record_words s) → place < length words → EndsWrong words place

abbrev pub RecordEnds : List ℕ → Type 0
RecordEnds words = (place : ℕ) → layout words ≡ refused RecordEnd place → EndsWrong words place
