-- Far slerp is its first quaternion turned to the perpendicular one by the angle's sine and cosine, `slerp_far-turned`: the formula, read in floats.
use mathlib.Core.Path.{◌≡◌, refl}
use lib.Ieee.{Float}
use Rattle.float32.specs.Operators.{◌⊗◌}
use Rattle.trig.specs.SinCos.{sin, cos}
use Rattle.quaternion.specs.declared.Quaternion.{Quaternion}
use Rattle.pose_steps.specs.Pose.{Pose-slerp_far}
use Rattle.pose_slerp.specs.means.Unjudged.{Perpendicular-of, Quaternion-turned}

pub slerp_far-turned : (q1 q2 : Quaternion) (cosθ θ t : Float)
    → Quaternion-turned q1 (Perpendicular-of q1 q2 cosθ).q (sin (θ ⊗ t)) (cos (θ ⊗ t)) ≡ Pose-slerp_far q1 q2 cosθ θ t
unfolding Pose-slerp_far Perpendicular-of
slerp_far-turned q1 q2 cosθ θ t = refl
