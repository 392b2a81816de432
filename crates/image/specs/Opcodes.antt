-- The opcode table: what follows each opcode, and the instruction that is meant.
use Rattle.std.specs.Prelude.{ℕ, ◌+◌, ◌-◌, ◌^◌, Bool, cond, ◌&&◌, List, [], ◌∷◌, length, ◌≡◌, Some, None, Option, Result, MatchResult, ◌==◌, nat_le, nat_lt, slice_index_or}
use Rattle.std.specs.Int.{w32}
use Rattle.std.proofs.Common.{to_z}
use Rattle.image.specs.declared.counts.Counts.{Counts}
use Rattle.image.specs.declared.instruction.Instruction.{Instruction}
use Rattle.image.specs.declared.instruction.Instruction.TheVariants.{Int, Truth, Name, Param, Free, Local, New, Op, Send, Object, Make, Choose, Tell, Ask, Ret}
use Rattle.image.specs.declared.opcode.Opcode.{Opcode}
use Rattle.image.specs.declared.opcode.Opcode.TheVariants as o
use Rattle.base.specs.declared.refusal.Cause.{Cause}
use Rattle.image.specs.declared.operand.Operand.{Operand}
use Rattle.image.specs.declared.operand.Operand.TheVariants.{Word, Flag, NameNumber, Index, ChannelType, OperatorNumber, LabelNumber, Arity, TableNumber, BlockNumber}
use Rattle.image.specs.Codes.{operator_of}

-- an operand lies in a range: from its least value on, and below its limit
abbrev pub least : Operand → ℕ
least Word = 0
least Flag = 0
least NameNumber = 0
least Index = 0
least ChannelType = 3
least OperatorNumber = 0
least LabelNumber = 0
least Arity = 0
least TableNumber = 0
least BlockNumber = 0

-- names, channel types, tables and blocks are those that the image has
abbrev pub limit : Counts → Operand → ℕ
limit n Word = 2 ^ 32
limit n Flag = 2
limit n NameNumber = n.names
limit n Index = 16
limit n ChannelType = n.types + 3
limit n OperatorNumber = 11
limit n LabelNumber = 256
limit n Arity = 9
limit n TableNumber = n.tables
limit n BlockNumber = n.blocks

abbrev pub in_range : Counts → Operand → ℕ → Bool
in_range n o w = nat_le (least o) w && nat_lt w (limit n o)

-- what may follow an opcode: no operand, one, or two
pub data Form : Type 0 where
  unknown : Form
  bare : Instruction → Form
  one : Operand → (ℕ → Instruction) → Form
  two : Operand → Operand → (ℕ → ℕ → Instruction) → Form

-- a channel type is written 3 + k
abbrev pub new_of : ℕ → Instruction
new_of w = New (record { 0 = w - 3 })

-- the opcodes 0 to 15
abbrev pub forms : List Form
forms =
    unknown
    ∷ one Word (λ w. Int (to_z w32 w))
    ∷ one Flag (λ w. Truth (w == 1))
    ∷ one NameNumber (λ w. Name (record { 0 = w }))
    ∷ one Index Param
    ∷ one Index Free
    ∷ one Index Local
    ∷ one ChannelType new_of
    ∷ one OperatorNumber (λ w. Op (operator_of w))
    ∷ two LabelNumber Arity (λ l a. Send (record { 0 = l }) a)
    ∷ one TableNumber (λ w. Object (record { 0 = w }))
    ∷ one BlockNumber (λ w. Make (record { 0 = w }))
    ∷ two BlockNumber BlockNumber (λ b c. Choose (record { 0 = b }) (record { 0 = c }))
    ∷ bare Tell
    ∷ bare Ask
    ∷ bare Ret
    ∷ []

abbrev pub form_of : ℕ → Form
form_of o = slice_index_or forms o unknown

-- the word of an opcode
abbrev pub opcode_word : Opcode → ℕ
opcode_word o.Int = 1
opcode_word o.Truth = 2
opcode_word o.Name = 3
opcode_word o.Param = 4
opcode_word o.Free = 5
opcode_word o.Local = 6
opcode_word o.New = 7
opcode_word o.Op = 8
opcode_word o.Send = 9
opcode_word o.Object = 10
opcode_word o.Make = 11
opcode_word o.Choose = 12
opcode_word o.Tell = 13
opcode_word o.Ask = 14
opcode_word o.Ret = 15

-- the opcode that is written as a word; none is where the word has no form
abbrev pub opcode_from : ℕ → Result Opcode Cause → Type 0
opcode_from w r = MatchResult r (λ o. opcode_word o ≡ w) (λ e. (form_of w ≡ unknown) × (e ≡ Cause.Opcode))

-- the operands that follow an opcode, if it is known
abbrev pub shape : Form → Option (List Operand)
shape unknown = None
shape (bare i) = Some []
shape (one o f) = Some (o ∷ [])
shape (two o p f) = Some (o ∷ p ∷ [])

-- how many words an instruction takes
abbrev pub size : List Operand → ℕ
size os = 1 + length os

-- the largest counts that an image may have
abbrev pub widest : Counts
widest = record { types = 64; blocks = 128; tables = 128; names = 128 }

abbrev pub taken_if : {X : Type 0} → Bool → X → Option X
taken_if b x = cond b (Some x) None

-- the instruction of a form with these operands; none where one is outside its range, or they are not as many
abbrev pub with_one : Form → ℕ → Option Instruction
with_one unknown a = None
with_one (bare i) a = None
with_one (one o f) a = taken_if (in_range widest o a) (f a)
with_one (two o p f) a = None

abbrev pub with_two : Form → ℕ → ℕ → Option Instruction
with_two unknown a b = None
with_two (bare i) a b = None
with_two (one o f) a b = None
with_two (two o p f) a b = taken_if (in_range widest o a && in_range widest p b) (f a b)

-- an instruction with the words behind it
abbrev pub before : List ℕ → Option Instruction → Option (Instruction × List ℕ)
before ws None = None
before ws (Some i) = Some (i, ws)

-- the operands of a form from the front of the words
abbrev pub filled : Form → List ℕ → Option (Instruction × List ℕ)
filled unknown ws = None
filled (bare i) ws = Some (i, ws)
filled (one o f) [] = None
filled (one o f) (a ∷ ws) = before ws (with_one (one o f) a)
filled (two o p f) [] = None
filled (two o p f) (a ∷ []) = None
filled (two o p f) (a ∷ b ∷ ws) = before ws (with_two (two o p f) a b)

-- the first instruction of the words, and the words behind it
abbrev pub decoded : List ℕ → Option (Instruction × List ℕ)
decoded [] = None
decoded (o ∷ ws) = filled (form_of o) ws
