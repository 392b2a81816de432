-- What the records in memory stand for.
use Rattle.std.specs.Prelude.{ℕ, ◌-◌, List, map, length, drop, Some, None, Option}
use Rattle.image.specs.declared.counts.Counts.{Counts}
use Rattle.image.specs.declared.image.Image.{Image}
use Rattle.image.specs.declared.instruction.Instruction.{Instruction}
use Rattle.image.specs.declared.records.BlockRecord.{BlockRecord}
use Rattle.image.specs.declared.records.Method.{Method}
use Rattle.image.specs.declared.records.TableRecord.{TableRecord}
use Rattle.image.specs.declared.types.TypeCode.{TypeCode}
use Rattle.image.specs.Layout as layout
use Rattle.image.specs.Opcodes.{decoded}
use Rattle.array_list.specs.Items.{items}
use Rattle.array_list.specs.declared.list.ArrayVec.{ArrayVec}

abbrev pub seen_method : Method → layout.Method
seen_method m = record { label = m.label; codes = items m.codes }

abbrev pub seen_type : ArrayVec Method 16 → List layout.Method
seen_type t = map seen_method (items t)

-- what a block declares, without its code
pub record Head : Type 0 where
  pub params : List TypeCode
  pub free : List TypeCode
  pub start : ℕ

abbrev pub head : layout.Block → Head
head b = record { params = b.params; free = b.free; start = b.start }

abbrev pub seen_block : BlockRecord → Head
seen_block b = record { params = items b.params; free = items b.free; start = b.start }

abbrev pub seen_table : TableRecord → layout.Table
seen_table t = record { start = t.start; pairs = items t.pairs }

abbrev pub seen_types : ArrayVec (ArrayVec Method 16) 64 → List (List layout.Method)
seen_types ts = map seen_type (items ts)

abbrev pub seen_blocks : ArrayVec BlockRecord 128 → List Head
seen_blocks bs = map seen_block (items bs)

abbrev pub seen_tables : ArrayVec TableRecord 128 → List layout.Table
seen_tables ts = map seen_table (items ts)

-- what an image declares: all of its structure but the code
pub record Outline : Type 0 where
  pub types : List (List layout.Method)
  pub blocks : List Head
  pub tables : List layout.Table
  pub names : ℕ

abbrev pub outline : layout.Structure → Outline
outline s = record { types = s.types; blocks = map head s.blocks; tables = s.tables; names = s.names }

-- what an image in memory says, and the words that it was read from
abbrev pub declares : Image → Outline
declares im = record { types = seen_types im.types; blocks = seen_blocks im.blocks; tables = seen_tables im.tables; names = im.names }

abbrev pub source : Image → List ℕ
source im = im.words.now

abbrev pub counted : Outline → Counts
counted o = record { types = length o.types; blocks = length o.blocks; tables = length o.tables; names = o.names }

-- the instruction whose opcode stands at a word, and the word behind it
abbrev pub with_place : List ℕ → Option (Instruction × List ℕ) → Option (Instruction × ℕ)
with_place words None = None
with_place words (Some p) = Some (p.0, length words - length p.1)

abbrev pub instruction_at : List ℕ → ℕ → Option (Instruction × ℕ)
instruction_at words at = with_place words (decoded (drop at words))
