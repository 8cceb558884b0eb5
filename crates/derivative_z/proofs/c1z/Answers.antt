-- `c1z` meets its contract: its operations are the definition's.
use mathlib.Core.Path.{refl}
use Rattle.derivative_z.specs.Terms.{c1z}
use Rattle.derivative_z.proofs.c1z.Goals as goal

pub returns : goal.returns
unfolding c1z
returns c = record { value = refl }
