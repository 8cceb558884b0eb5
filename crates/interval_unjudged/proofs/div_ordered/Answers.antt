-- `div_ordered` meets its contract: the four values are the definition's.
use Rattle.interval_unjudged.specs.means.Ordered.{Interval-div_ordered}
use Rattle.interval_unjudged.proofs.div_ordered.Goals as goal

pub returns : goal.returns
unfolding Interval-div_ordered
returns c = record { value = c.of_four_ordered.ensures.value }
