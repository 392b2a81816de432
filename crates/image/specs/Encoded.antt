-- The words of each instruction, and that decoding undoes encoding.
use Rattle.std.specs.Prelude.{◌≡◌, ℕ, ◌+◌, ◌<◌, ◌≤◌, Bool, cond, ◌↔◌, List, [], ◌∷◌, ◌++◌, Some, FitsSigned}
use Rattle.std.specs.Int.{w32}
use Rattle.std.proofs.Common.{of_z}
use Rattle.image.specs.declared.counts.Counts.{Counts}
use Rattle.image.specs.declared.instruction.Instruction.{Instruction}
use Rattle.image.specs.declared.instruction.Instruction.TheVariants.{Int, Truth, Name, Param, Free, Local, New, Op, Send, Object, Make, Choose, Tell, Ask, Ret}
use Rattle.image.specs.Codes.{operator_word}
use Rattle.image.specs.Opcodes.{decoded, widest}

abbrev pub flag : Bool → ℕ
flag b = cond b 1 0

-- an opcode and its operands; an integer is its two's complement word
abbrev pub encoded : Instruction → List ℕ
encoded (Int z) = 1 ∷ of_z w32 z ∷ []
encoded (Truth b) = 2 ∷ flag b ∷ []
encoded (Name n) = 3 ∷ n.0 ∷ []
encoded (Param i) = 4 ∷ i ∷ []
encoded (Free i) = 5 ∷ i ∷ []
encoded (Local i) = 6 ∷ i ∷ []
encoded (New t) = 7 ∷ (t.0 + 3) ∷ []
encoded (Op o) = 8 ∷ operator_word o ∷ []
encoded (Send l a) = 9 ∷ l.0 ∷ a ∷ []
encoded (Object t) = 10 ∷ t.0 ∷ []
encoded (Make b) = 11 ∷ b.0 ∷ []
encoded (Choose b c) = 12 ∷ b.0 ∷ c.0 ∷ []
encoded Tell = 13 ∷ []
encoded Ask = 14 ∷ []
encoded Ret = 15 ∷ []

-- the operands lie in their ranges, in an image with these counts
abbrev pub OperandsFit : Counts → Instruction → Type 0
OperandsFit n (Int z) = FitsSigned w32 z
OperandsFit n (Truth b) = Unit {0}
OperandsFit n (Name k) = k.0 < n.names
OperandsFit n (Param i) = i < 16
OperandsFit n (Free i) = i < 16
OperandsFit n (Local i) = i < 16
OperandsFit n (New t) = t.0 < n.types
OperandsFit n (Op o) = Unit {0}
OperandsFit n (Send l a) = (l.0 < 256) × (a ≤ 8)
OperandsFit n (Object t) = t.0 < n.tables
OperandsFit n (Make b) = b.0 < n.blocks
OperandsFit n (Choose b c) = (b.0 < n.blocks) × (c.0 < n.blocks)
OperandsFit n Tell = Unit {0}
OperandsFit n Ask = Unit {0}
OperandsFit n Ret = Unit {0}

-- an instruction is decoded exactly where its words stand first, and its operands fit the largest image
abbrev pub Decodes : List ℕ → Type 0
Decodes ws = (i : Instruction) (rest : List ℕ) → (decoded ws ≡ Some (i, rest)) ↔ ((ws ≡ encoded i ++ rest) × OperandsFit widest i)
