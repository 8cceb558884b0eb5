-- `c4z` meets its contract: its operations are the definition's.
use mathlib.Core.Path.{refl}
use Rattle.derivative_z.specs.Terms.{c4z}
use Rattle.derivative_z.proofs.c4z.Goals as goal

pub returns : goal.returns
unfolding c4z
returns c = record { value = refl }
