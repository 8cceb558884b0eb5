-- `of_four_ordered` meets its contract: least and greatest, pair by pair.
use Rattle.interval_unjudged.specs.means.Ordered.{Interval-of_four_ordered}
use Rattle.interval_unjudged.proofs.of_four_ordered.Goals as goal

pub returns : goal.returns
unfolding Interval-of_four_ordered
returns c = record { value = rw (c.greater-3.ensures.value, c.greater-2.ensures.value, c.greater.ensures.value, c.lesser-3.ensures.value, c.lesser-2.ensures.value, c.lesser.ensures.value) }
