-- `distance` meets its contract: each row is taken into the greatest so far.
use Rattle.polar_round.specs.PolarRound.{distance}
use Rattle.polar_round.proofs.distance.Goals as goal

pub returns : goal.returns
unfolding distance
returns c = record { value = rw (c.max.ensures.value, c.row_distance-3.ensures.value, c.max-b.ensures.value, c.row_distance-2.ensures.value, c.max-a.ensures.value, c.row_distance.ensures.value) }
