-- The layout of an image, in the order of reading: each word is judged as it is read, so the first broken rule is the one refused.
use Rattle.std.specs.Prelude.{ℕ, zero, suc, ◌+◌, ◌^◌, Bool, false, cond, ◌&&◌, List, [], ◌∷◌, length, Some, None, Ok, Err, Option, Result, ◌==◌, nat_le, nat_lt, slice_index}
use Rattle.std.specs.Bool.{beq}
use Rattle.base.specs.declared.ids.Label.{Label}
use Rattle.base.specs.declared.refusal.Cause.TheVariants.{ImageSize, RecordEnd, LabelOrder, Opcode}
use Rattle.base.specs.declared.refusal.Refusal.{Refusal}
use Rattle.base.specs.Refusals.{refused}
use Rattle.image.specs.declared.counts.Counts.{Counts}
use Rattle.image.specs.declared.instruction.Instruction.{Instruction}
use Rattle.image.specs.declared.operand.Operand.{Operand}
use Rattle.image.specs.declared.records.Pair.{Pair}
use Rattle.image.specs.declared.types.TypeCode.{TypeCode}
use Rattle.image.specs.Codes.{code_of}
use Rattle.image.specs.Opcodes.{Form, unknown, bare, one, two, form_of, shape, size, least, limit}
use Rattle.image.specs.Readers.{Read, Reader, ◌>>=◌, and_then, done, here, number, count, chain}

-- ---- what an image says

-- a method of a channel type: its label, and the types of its values
pub record Method : Type 0 where
  pub label : Label
  pub codes : List TypeCode

-- a block: the types of its parameters and of its free values, the word where its code begins, and its code
pub record Block : Type 0 where
  pub params : List TypeCode
  pub free : List TypeCode
  pub start : ℕ
  pub code : List Instruction

-- a method table: the word where its pairs begin, and for each label the block that serves it
pub record Table : Type 0 where
  pub start : ℕ
  pub pairs : List Pair

pub record Structure : Type 0 where
  pub types : List (List Method)
  pub blocks : List Block
  pub tables : List Table
  pub names : ℕ

-- ---- type records

-- a label, 0 to 255, from low on: one that is lower does not rise
abbrev pub rising : ℕ → ℕ → ℕ → Reader Label
rising low at l words to = cond (nat_le low l) (Ok (record { 0 = l }, to)) (refused LabelOrder at)

abbrev pub label : ℕ → Reader Label
label low = here >>= λ at. number 0 256 >>= λ l. rising low at l

-- the least label that rises over the one before, or over none
abbrev pub over : Option Label → ℕ
over None = 0
over (Some l) = l.0 + 1

-- a type code: integer, truth, name, or one of the channel types
abbrev pub code : ℕ → Reader TypeCode
code types = number 0 (types + 3) >>= λ w. done (code_of w)

-- n things of one kind
abbrev pub many : {X : Type 0} → Reader X → ℕ → Reader (List X)
many item n = chain {S = Unit {0}} (λ _. item) (λ s _. s) tt n

-- a number of values, at most most, and their type codes
abbrev pub values : ℕ → ℕ → Reader (List TypeCode)
values types most = count 0 most >>= many (code types)

-- a label, an arity of 0 to 8 and that many codes
abbrev pub method : ℕ → ℕ → Reader Method
method types low = do
  l ← label low
  cs ← values types 8
  done (record { label = l; codes = cs })

-- labels rise strictly inside a record
abbrev pub after_method : ℕ → Method → ℕ
after_method low m = m.label.0 + 1

-- a number of methods, 0 to 16, and that many methods
abbrev pub type_record : ℕ → Reader (List Method)
type_record types = count 0 16 >>= chain (method types) after_method 0

-- ---- blocks

abbrev pub operand : Counts → Operand → Reader ℕ
operand n o = number (least o) (limit n o)

-- the operands of a form, one by one
abbrev pub operands : Counts → Form → Reader Instruction
operands n unknown words at = refused Opcode at
operands n (bare i) words at = done i words at
operands n (one o f) words at = (operand n o >>= λ a. done (f a)) words at
operands n (two o p f) words at = (operand n o >>= λ a. operand n p >>= λ b. done (f a b)) words at

-- a known opcode, whose instruction lies before the end, and ends there exactly if it is ret, opcode 15
abbrev pub opcode_stands : ℕ → ℕ → ℕ → Option (List Operand) → Bool
opcode_stands end at o None = false
opcode_stands end at o (Some os) = nat_le (at + size os) end && beq (at + size os == end) (o == 15)

-- the instruction at a place of a block that ends at end: first its opcode, then its operands
abbrev pub opened : Counts → ℕ → ℕ → ℕ → Reader Instruction
opened n end at o words to = cond (opcode_stands end at o (shape (form_of o))) (operands n (form_of o) words to) (refused Opcode at)

abbrev pub instruction : Counts → ℕ → Reader Instruction
instruction n end = here >>= λ at. number 0 (2 ^ 32) >>= λ o. opened n end at o

-- the instructions up to the end of the block, of which there are at most so many
abbrev pub instructions : Counts → ℕ → ℕ → Reader (List Instruction)
instructions n end zero words at = Ok ([], at)
instructions n end (suc most) words at =
    cond (nat_lt at end)
    ((instruction n end >>= λ i. instructions n end most >>= λ is. done (i ∷ is)) words at)
    (Ok ([], at))

-- parameters, free values, a number of instruction words, 1 to 1,024, and those words
abbrev pub block : Counts → ℕ → Reader Block
block n most = do
  ps ← values n.types most
  fs ← values n.types most
  size ← count 1 1024
  start ← here
  is ← instructions n (start + size) size
  done (record { params = ps; free = fs; start = start; code = is })

-- the most values of a block behind another, or behind none
abbrev pub most_behind : {X : Type 0} → Option X → ℕ
most_behind None = 0
most_behind (Some b) = 8

-- block 0 has neither parameters nor free values; the others have up to eight of each
abbrev pub after_block : ℕ → Block → ℕ
after_block most b = 8

-- ---- method tables

-- a label and a block number
abbrev pub pair : ℕ → ℕ → Reader Pair
pair blocks low = do
  l ← label low
  b ← number 0 blocks
  done (record { label = l; block = record { 0 = b } })

-- labels rise strictly inside a table
abbrev pub after_pair : ℕ → Pair → ℕ
after_pair low p = p.label.0 + 1

-- a number of pairs, 1 to 16, and that many pairs
abbrev pub table : ℕ → Reader Table
table blocks = do
  n ← count 1 16
  start ← here
  ps ← chain (pair blocks) after_pair 0 n
  done (record { start = start; pairs = ps })

-- ---- the image

-- words 0 to 3: how many channel types, blocks, tables and names
abbrev pub counts : Reader Counts
counts = do
  t ← count 0 64
  b ← count 1 128
  m ← count 0 128
  n ← count 0 128
  done (record { types = t; blocks = b; tables = m; names = n })

-- word 4: how many words there are
abbrev pub total : Reader (Unit {0})
total words at = cond (slice_index words at == length words) (Ok (tt, at + 1)) (refused ImageSize at)

-- an image has at least its five counts, and at most 8,192 words
abbrev pub sized : List ℕ → Bool
sized words = nat_le 5 (length words) && nat_le (length words) 8192

-- what stands in front of the records
abbrev pub header : List ℕ → Read Counts
header words = cond (sized words) ((counts >>= λ n. total >>= λ _. done n) words 0) (refused ImageSize 0)

-- the records, each kind as often as it is counted
abbrev pub records : Counts → Reader Structure
records n = do
  ts ← many (type_record n.types) n.types
  bs ← chain (block n) after_block 0 n.blocks
  ms ← many (table n.blocks) n.tables
  done (record { types = ts; blocks = bs; tables = ms; names = n.names })

-- nothing stands behind the last record: what is left over is refused at its first word
abbrev pub ended : {X : Type 0} → List ℕ → Read X → Result X Refusal
ended words (Ok p) = cond (nat_lt p.1 (length words)) (refused RecordEnd p.1) (Ok p.0)
ended words (Err e) = Err e

abbrev pub layout : List ℕ → Result Structure Refusal
layout words = ended words (and_then (header words) (λ n to. records n words to))
