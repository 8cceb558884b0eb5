-- `matrix_ends_sum` meets its contract: its calls in turn, from the last to the first.
use Rattle.pose_ends.specs.means.Ends.{IntervalMatrix-ends_sum}
use Rattle.pose_ends.proofs.matrix_ends_sum.Goals as goal

pub returns : goal.returns
unfolding IntervalMatrix-ends_sum
returns c = record { value = rw (c.row_ends_sum-3.ensures.value, c.row_ends_sum-2.ensures.value, c.row_ends_sum.ensures.value) }
