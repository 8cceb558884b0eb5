-- `c4x` meets its contract: its operations are the definition's.
use mathlib.Core.Path.{refl}
use Rattle.derivative_x.specs.Terms.{c4x}
use Rattle.derivative_x.proofs.c4x.Goals as goal

pub returns : goal.returns
unfolding c4x
returns c = record { value = refl }
