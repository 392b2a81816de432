use Rattle.image.proofs.Composing.{passed_on}
use Rattle.image.proofs.Instructing.{next_turn, stopped, finished}
use Rattle.image.proofs.cursor.Cursor.instructions.Goals as goal

pub loop-self-preserved : goal.loop-self-preserved
loop-self-preserved c = next_turn _ c.loop-self.invariant.1 c.loop-self-test.true (c.in_ok-instruction.ensures).on (c.in_ok-instruction.ensures).value

pub returns-in_err-instruction : goal.returns-in_err-instruction
returns-in_err-instruction c = passed_on c.from_residual.ensures.1 (stopped _ c.loop-self.invariant.1 c.loop-self-test.true (c.in_err-instruction.ensures).value)

pub returns : goal.returns
returns c = finished _ c.loop-self.invariant.1 c.loop-self-test.false
