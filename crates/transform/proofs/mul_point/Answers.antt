-- `mul_point` meets its contract: its operations are the definition's.
use mathlib.Core.Path.{refl}
use Rattle.transform.proofs.mul_point.Goals as goal

pub returns : goal.returns
returns c = record { value = refl }
