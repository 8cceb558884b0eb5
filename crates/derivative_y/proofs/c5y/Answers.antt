-- `c5y` meets its contract: its operations are the definition's.
use mathlib.Core.Path.{refl}
use Rattle.derivative_y.specs.Terms.{c5y}
use Rattle.derivative_y.proofs.c5y.Goals as goal

pub returns : goal.returns
unfolding c5y
returns c = record { value = refl }
