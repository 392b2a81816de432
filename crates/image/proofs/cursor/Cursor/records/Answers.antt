use Rattle.std.proofs.Common.{arith}
use Rattle.image.proofs.Composing.{passed_on}
use Rattle.image.proofs.Reading.{next_turn, stopped}
use Rattle.image.proofs.cursor.Cursor.records.Goals as goal

pub returns-in_err-record : goal.returns-in_err-record
returns-in_err-record g c = passed_on c.from_residual.ensures.1 (stopped c.loop-i.invariant c.loop-i-test.true (rw c.as_slice.ensures.value at c.in_err-record.ensures))

pub loop-i-preserved : goal.loop-i-preserved
loop-i-preserved g c = next_turn c.loop-i.invariant c.loop-i-test.true (rw c.as_slice.ensures.value at c.in_ok-record.ensures) (c.push.ensures.room (omega (arith, c.loop-i.invariant.many)))
