use Rattle.std.proofs.Common.{length, ap}
use Rattle.array_list.proofs.list.ArrayVec.len.Goals as goal

pub returns : goal.returns
returns g c = record { value = ap length c.as_slice.ensures.value; few = c.as_slice.ensures.few }
