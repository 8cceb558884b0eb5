-- `mean` meets its contract: each call is the mean of two rows.
use Rattle.polar_round.specs.PolarRound.{mean}
use Rattle.polar_round.proofs.mean.Goals as goal

pub returns : goal.returns
unfolding mean
returns c = record { value = rw (c.mean_row-4.ensures.value, c.mean_row-3.ensures.value, c.mean_row-2.ensures.value, c.mean_row.ensures.value) }
