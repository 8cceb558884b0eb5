-- `c3y` meets its contract: its operations are the definition's.
use mathlib.Core.Path.{refl}
use Rattle.derivative_y.specs.Terms.{c3y}
use Rattle.derivative_y.proofs.c3y.Goals as goal

pub returns : goal.returns
unfolding c3y
returns c = record { value = refl }
