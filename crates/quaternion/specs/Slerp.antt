-- pbrt's `slerp`: interpolation of two quaternions, linear exactly where their dot product is above 0.9995. Definitions only.
-- A NaN's dot product is above nothing, so that it goes by the angle.
use Rattle.std.specs.Prelude.{Bool, true, false, Float}
use Rattle.std.specs.Float.{binary32}
use Rattle.std.specs.Float.Ieee.{of_bits, neg, lt}
use Rattle.float32.specs.Operators.{◌⊖◌, ◌⊗◌, one}
use Rattle.float32.specs.Clamp.{clamp}
use Rattle.trig.specs.SinCos.{sin, cos}
use Rattle.arc_cosine.specs.Acos.{acos}
use Rattle.quaternion.specs.declared.Quaternion.{Quaternion}
use Rattle.quaternion.specs.Quaternion.{Quaternion-dot, Quaternion-normalize, Quaternion-add, Quaternion-sub, Quaternion-mul}

-- 0.9995: slerp is linear above it, and has_rotation asks for less.
abbrev pub slerp_threshold : Float
slerp_threshold = of_bits binary32 0x3f7fdf3b

-- `(*q1 * (1.0 - t) + *q2 * t).normalize()`
unfoldable pub slerp_near : Quaternion → Quaternion → Float → Quaternion
slerp_near q1 q2 t = Quaternion-normalize (Quaternion-add (Quaternion-mul q1 (one ⊖ t)) (Quaternion-mul q2 t))

-- `*q1 * thetap.cos() + qperp * thetap.sin()`
unfoldable pub slerp_far : Quaternion → Quaternion → Float → Float → Quaternion
slerp_far q1 q2 t cosθ =
    let θ' = acos (clamp cosθ (neg one) one) ⊗ t in
    let qperp = Quaternion-normalize (Quaternion-sub q2 (Quaternion-mul q1 cosθ)) in
    Quaternion-add (Quaternion-mul q1 (cos θ')) (Quaternion-mul qperp (sin θ'))

-- A match and no `cond`, so that only the case that holds is computed.
unfoldable pub slerp_by : Bool → Quaternion → Quaternion → Float → Float → Quaternion
slerp_by true q1 q2 t cosθ = slerp_near q1 q2 t
slerp_by false q1 q2 t cosθ = slerp_far q1 q2 t cosθ

-- `slerp`
unfoldable pub Quaternion-slerp : Quaternion → Quaternion → Float → Quaternion
Quaternion-slerp q1 q2 t = let cosθ = Quaternion-dot q1 q2 in slerp_by (lt slerp_threshold cosθ) q1 q2 t cosθ
