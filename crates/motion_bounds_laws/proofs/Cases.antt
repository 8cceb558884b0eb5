-- Cases of the definitions, by computing, on document 01's moves A and B: a move without rotation joins the boxes of its two poses, one between
-- equal poses has its start's box alone, and a box is judged before anything is worked out. Only the point of the first is searched for zeros.
use mathlib.Core.Path.{◌≡◌, refl}
use mathlib.Core.Bool.{false}
use mathlib.Core.List.{[], ◌∷◌}
use Prim.Native.Nat.{ℕ}
use lib.Ieee.{Float, nan, binary32, of_bits}
use Rattle.motion_bounds.specs.bounds3.declared.Point3f.{Point3f}
use Rattle.motion_bounds.specs.bounds3.declared.Bounds3f.{Bounds3f}
use Rattle.motion_bounds.specs.bounds3.Bounds3f.{Bounds3f-from_point}
use Rattle.motion_bounds.specs.matrix4x4.declared.Matrix4x4.{Matrix4x4}
use Rattle.motion_bounds.specs.declared.Examined.{Examined}
use Rattle.motion_bounds.specs.declared.MotionBoundsAnswer.TheVariants.{Bounds, Refused}
use Rattle.motion_bounds.specs.vector3.declared.Vector3f.{Vector3f}
use Rattle.motion_bounds.specs.quaternion.declared.Quaternion.{Quaternion}
use Rattle.motion_bounds.specs.pose_steps.declared.PoseConstants.{PoseConstants}
use Rattle.motion_bounds.specs.animated_transform.declared.AnimatedTransform.{AnimatedTransform}
use Rattle.motion_bounds.specs.animated_transform.New.{AnimatedTransform-new}
use Rattle.motion_bounds.specs.animated_transform.means.Computing as animated
use Rattle.motion_bounds.specs.MotionBounds.{all_places, point_bounds}
use Rattle.motion_bounds.specs.Examined.{Examined-none, point_examined}
use Rattle.motion_bounds.specs.Answer.{BoundsAnswer-counted, AnimatedTransform-bound_point_motion, AnimatedTransform-motion_bounds}
use Rattle.motion_bounds.specs.means.Computing.{computing}

-- floats by their bits
abbrev f : ℕ → Float
f n = of_bits binary32 n

abbrev at : ℕ → ℕ → ℕ → Point3f
at x y z = record { x = f x; y = f y; z = f z }

-- identity with m03 = x
abbrev matrix : ℕ → Matrix4x4
matrix x =
    let o = f 0 in
    let i = f 0x3f800000 in
    record { r0 = i ∷ o ∷ o ∷ f x ∷ []; r1 = o ∷ i ∷ o ∷ o ∷ []; r2 = o ∷ o ∷ i ∷ o ∷ []; r3 = o ∷ o ∷ o ∷ i ∷ [] }

-- from the identity at time 0 to the identity with m03 = x at time 1
abbrev along : ℕ → AnimatedTransform
along x = (AnimatedTransform-new false (record { time = f 0; m = matrix 0; pad = f 0 }) (record { time = f 0x3f800000; m = matrix x; pad = f 0 })).value

-- 1 2 3 to 4 5 6
abbrev box : Bounds3f
box = record { p_min = at 0x3f800000 0x40000000 0x40400000; p_max = at 0x40800000 0x40a00000 0x40c00000 }

translation-joins-ends : AnimatedTransform-motion_bounds (along 0x3f800000) box ≡ Bounds
    (record { p_min = box.p_min; p_max = at 0x40a00000 0x40a00000 0x40c00000 }) Examined-none
unfolding computing animated.computing
translation-joins-ends = refl

-- its constants: no angle lies between the two rotations
abbrev straight : PoseConstants
straight =
    let t : Vector3f = record { x = f 0; y = f 0; z = f 0 } in
    let r : Quaternion = record { v = t; w = f 0x3f800000 } in
    record { t0 = t; t1 = record { x = f 0x3f800000; y = f 0; z = f 0 }; r0 = r; r1 = r; cos_theta = f 0x3f800000; theta = f 0; rigid = false }

-- each axis's search drops 0 to 1 at once
translation-point :
    BoundsAnswer-counted (point_bounds all_places (along 0x3f800000) straight box.p_min) (point_examined (along 0x3f800000) straight box.p_min) ≡
    Bounds (record { p_min = box.p_min; p_max = at 0x40000000 0x40000000 0x40400000 }) (record { x = 1; y = 1; z = 1 })
unfolding computing animated.computing
translation-point = refl

equal-poses-box : AnimatedTransform-motion_bounds (along 0) box ≡ Bounds box Examined-none
unfolding computing animated.computing
equal-poses-box = refl

equal-poses-point : AnimatedTransform-bound_point_motion (along 0) box.p_min ≡ Bounds (Bounds3f-from_point box.p_min) Examined-none
unfolding computing animated.computing
equal-poses-point = refl

least-above-greatest : (m : AnimatedTransform) → AnimatedTransform-motion_bounds m (record { p_min = box.p_max; p_max = box.p_min }) ≡ Refused 7
unfolding computing
least-above-greatest m = refl

nan-before-order : (m : AnimatedTransform)
    → AnimatedTransform-motion_bounds m (record { p_min = box.p_max; p_max = record { x = f 0; y = nan; z = f 0 } }) ≡ Refused 6
unfolding computing
nan-before-order m = refl

nan-point : (m : AnimatedTransform) → AnimatedTransform-bound_point_motion m (record { x = f 0; y = nan; z = f 0 }) ≡ Refused 6
unfolding computing
nan-point m = refl
