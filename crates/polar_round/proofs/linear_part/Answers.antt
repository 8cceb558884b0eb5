-- `linear_part` meets its contract: it is the definition, written out.
use mathlib.Core.Path.{refl}
use Rattle.polar_round.specs.PolarRound.{linear_part}
use Rattle.polar_round.proofs.linear_part.Goals as goal

pub returns : goal.returns
unfolding linear_part
returns c = record { value = refl }
