-- `c3x` meets its contract: its operations are the definition's.
use mathlib.Core.Path.{refl}
use Rattle.derivative_x.specs.Terms.{c3x}
use Rattle.derivative_x.proofs.c3x.Goals as goal

pub returns : goal.returns
unfolding c3x
returns c = record { value = refl }
