-- `row_ends_sum` meets its contract: its calls in turn, from the last to the first.
use Rattle.pose_ends.specs.means.Ends.{IntervalRow-ends_sum}
use Rattle.pose_ends.proofs.row_ends_sum.Goals as goal

pub returns : goal.returns
unfolding IntervalRow-ends_sum
returns c = record { value = rw (c.ends_sum-4.ensures.value, c.ends_sum-3.ensures.value, c.ends_sum-2.ensures.value, c.ends_sum.ensures.value) }
