-- `c2y` meets its contract: its operations are the definition's.
use mathlib.Core.Path.{refl}
use Rattle.derivative_y.specs.Terms.{c2y}
use Rattle.derivative_y.proofs.c2y.Goals as goal

pub returns : goal.returns
unfolding c2y
returns c = record { value = refl }
