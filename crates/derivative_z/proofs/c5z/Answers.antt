-- `c5z` meets its contract: its operations are the definition's.
use mathlib.Core.Path.{refl}
use Rattle.derivative_z.specs.Terms.{c5z}
use Rattle.derivative_z.proofs.c5z.Goals as goal

pub returns : goal.returns
unfolding c5z
returns c = record { value = refl }
