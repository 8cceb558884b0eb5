-- `c5x` meets its contract: its operations are the definition's.
use mathlib.Core.Path.{refl}
use Rattle.derivative_x.specs.Terms.{c5x}
use Rattle.derivative_x.proofs.c5x.Goals as goal

pub returns : goal.returns
unfolding c5x
returns c = record { value = refl }
