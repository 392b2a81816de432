use Rattle.std.proofs.Common.{arith}
use Rattle.image.proofs.Viewing.{rest_short}
use Rattle.image.proofs.image.Image.instruction.Goals as goal

pub overflow_sub-result : goal.overflow_sub-result
overflow_sub-result c = omega (arith, rest_short c.in_ok-get.field-0.now _ _ c.in_ok-instruction.ensures.value, c.in_ok-get.ensures.lookup)
