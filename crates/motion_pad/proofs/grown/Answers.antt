-- `grown` meets its contract: face by face.
use mathlib.Core.Path.{refl}
use Rattle.motion_pad.specs.Grow.{Bounds3f-grow}
use Rattle.motion_pad.proofs.grown.Goals as goal

pub returns : goal.returns
unfolding Bounds3f-grow
returns c = record { value = refl }
