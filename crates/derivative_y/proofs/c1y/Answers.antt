-- `c1y` meets its contract: its operations are the definition's.
use mathlib.Core.Path.{refl}
use Rattle.derivative_y.specs.Terms.{c1y}
use Rattle.derivative_y.proofs.c1y.Goals as goal

pub returns : goal.returns
unfolding c1y
returns c = record { value = refl }
