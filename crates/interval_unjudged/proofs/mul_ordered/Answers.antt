-- `mul_ordered` meets its contract: the four values are the definition's.
use Rattle.interval_unjudged.specs.means.Ordered.{Interval-mul_ordered}
use Rattle.interval_unjudged.proofs.mul_ordered.Goals as goal

pub returns : goal.returns
unfolding Interval-mul_ordered
returns c = record { value = c.of_four_ordered.ensures.value }
