-- A float that equals itself has bits.
use Rattle.float_bits.proofs.rounding.Order.{differs-nan}
use Rattle.square_root.proofs.estimate_bits.Goals as goal

pub float_to_bits-result : goal.float_to_bits-result
float_to_bits-result c = rw (← differs-nan c.estimate-root.result, c.if-root.false) tt
