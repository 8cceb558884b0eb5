-- `row_distance` meets its contract: each call is an absolute value.
use Rattle.polar_round.specs.PolarRound.{row_distance}
use Rattle.polar_round.proofs.row_distance.Goals as goal

pub returns : goal.returns
unfolding row_distance
returns c = record { value = cc }
