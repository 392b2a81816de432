-- The first instruction of some words leaves no more words than there are.
use Rattle.std.proofs.Common.{◌≡◌, ℕ, ◌≤◌, List, length, Some, sym, ap, arith, length-append}
use Rattle.image.specs.declared.instruction.Instruction.{Instruction}
use Rattle.image.specs.Encoded.{encoded}
use Rattle.image.specs.Opcodes.{decoded}
use Rattle.image.proofs.Decoding.{decodes}

pub rest_short : (words : List ℕ) (i : Instruction) (rest : List ℕ) → Some (i, rest) ≡ decoded words → length rest ≤ length words
rest_short words i rest e =
    let front = ((decodes words i rest).0 (sym e)).0 in
    omega (arith, length-append (encoded i) rest, ap length front)
