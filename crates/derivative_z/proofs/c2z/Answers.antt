-- `c2z` meets its contract: its operations are the definition's.
use mathlib.Core.Path.{refl}
use Rattle.derivative_z.specs.Terms.{c2z}
use Rattle.derivative_z.proofs.c2z.Goals as goal

pub returns : goal.returns
unfolding c2z
returns c = record { value = refl }
