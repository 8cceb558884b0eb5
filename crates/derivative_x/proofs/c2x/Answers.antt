-- `c2x` meets its contract: its operations are the definition's.
use mathlib.Core.Path.{refl}
use Rattle.derivative_x.specs.Terms.{c2x}
use Rattle.derivative_x.proofs.c2x.Goals as goal

pub returns : goal.returns
unfolding c2x
returns c = record { value = refl }
