-- `eval` meets its contract: its operations are the definition's.
use mathlib.Core.Path.{refl}
use Rattle.motion_bounds.specs.MotionBounds.{DerivativeTerm-eval}
use Rattle.motion_bounds.proofs.eval.Goals as goal

pub returns : goal.returns
unfolding DerivativeTerm-eval
returns c = record { value = refl }
