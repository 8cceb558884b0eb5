-- `times` meets its contract: its calls, the last first.
use Rattle.pose_product.specs.means.Unjudged.{IntervalVector-times}
use Rattle.pose_product.proofs.times.Goals as goal

pub returns : goal.returns
unfolding IntervalVector-times
returns c = record { value = rw (c.mul_ordered-z.ensures.value, c.mul_ordered-y.ensures.value, c.mul_ordered-x.ensures.value) }
