use Rattle.std.proofs.Common.{◌≡◌, ap, ◌∙◌, arith, rules}
use Rattle.image.specs.Opcodes.{form_of, opcode_word, shape}
use Rattle.image.proofs.Instructing.{judged}
use Rattle.image.proofs.cursor.Cursor.instruction.Goals as goal

pub returns-clause-value : goal.returns-clause-value
returns-clause-value c =
    let word : opcode_word c.in_ok-opcode.opcode ≡ c.in_ok-word.word = search rules in
    let known = c.operands-operands.ensures.value ∙ ap (λ w. shape (form_of w)) word in
    judged (c.in_ok-word.ensures).value known (omega arith) (search rules) c.operands.ensures.value
