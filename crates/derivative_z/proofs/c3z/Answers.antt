-- `c3z` meets its contract: its operations are the definition's.
use mathlib.Core.Path.{refl}
use Rattle.derivative_z.specs.Terms.{c3z}
use Rattle.derivative_z.proofs.c3z.Goals as goal

pub returns : goal.returns
unfolding c3z
returns c = record { value = refl }
