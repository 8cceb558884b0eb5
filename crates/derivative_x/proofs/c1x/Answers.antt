-- `c1x` meets its contract: its operations are the definition's.
use mathlib.Core.Path.{refl}
use Rattle.derivative_x.specs.Terms.{c1x}
use Rattle.derivative_x.proofs.c1x.Goals as goal

pub returns : goal.returns
unfolding c1x
returns c = record { value = refl }
