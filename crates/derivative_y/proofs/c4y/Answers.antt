-- `c4y` meets its contract: its operations are the definition's.
use mathlib.Core.Path.{refl}
use Rattle.derivative_y.specs.Terms.{c4y}
use Rattle.derivative_y.proofs.c4y.Goals as goal

pub returns : goal.returns
unfolding c4y
returns c = record { value = refl }
