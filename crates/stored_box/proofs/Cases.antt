-- Cases by computing, in which all is met that the laws ask for. A shear takes the box from 1 2 3 to 4 5 6 to the box from -2 -6 0 to 7 9 6, both ways;
-- a stretch by 2^127 along x is refused with 5, both ways.
use mathlib.Core.Path.{◌≡◌, refl}
use mathlib.Core.Bool.{false}
use mathlib.Core.List.{[], ◌∷◌}
use Prim.Native.Nat.{ℕ, ◌^◌}
use lib.Ieee.{Float, binary32, round, neg}
use Rattle.bounds_query.specs.matrix4x4.declared.Matrix4x4.{Matrix4x4}
use Rattle.bounds_query.specs.matrix4x4.IsAffine.{Matrix4x4-is_affine}
use Rattle.bounds_query.specs.bounds3.declared.Bounds3f.{Bounds3f}
use Rattle.bounds_query.specs.bounds3.Inside.{Subset}
use Rattle.bounds_query.specs.transform.declared.Transform.{Transform}
use Rattle.bounds_query.specs.transform.declared.BoundsAnswer.TheVariants.{Refused}
use Rattle.bounds_query.specs.transform.TransformBounds.{Transform-transform_bounds}
use Rattle.bounds_query.specs.transform.means.Computing as transform
use Rattle.bounds_query.specs.means.Computing as query
use Rattle.pose_steps.specs.Enclose.{IntervalVector-bounds}
use Rattle.pose_steps.specs.means.Computing as pose
use Rattle.stored_box.specs.EnclosePoints.{Transform-enclose_points}
use Rattle.stored_box.proofs.StoredBox.{stored-box-same}

abbrev whole : ℕ → Float
whole n = round binary32 false n 1

abbrev affine : Float → Float → Float → Float → Matrix4x4
affine x y z w =
    let o = whole 0 in
    let i = whole 1 in
    record {
      r0 = x ∷ y ∷ o ∷ i ∷ [];
      r1 = o ∷ whole 3 ∷ z ∷ o ∷ [];
      r2 = i ∷ o ∷ i ∷ w ∷ [];
      r3 = o ∷ o ∷ o ∷ i ∷ [];
    }

abbrev stored : Matrix4x4 → Transform
stored m = record { m = m; m_inv = m }

abbrev shear : Transform
shear = stored (affine (whole 2) (neg (whole 1)) (neg (whole 2)) (neg (whole 4)))

abbrev stretch : Transform
stretch = stored (affine (whole (2 ^ 127)) (whole 0) (whole 0) (whole 0))

abbrev box : Bounds3f
box = record { p_min = record { x = whole 1; y = whole 2; z = whole 3 }; p_max = record { x = whole 4; y = whole 5; z = whole 6 } }

abbrev sheared : Bounds3f
sheared = record { p_min = record { x = neg (whole 2); y = neg (whole 6); z = whole 0 }; p_max = record { x = whole 7; y = whole 9; z = whole 6 } }

shear-same : Subset (IntervalVector-bounds (Transform-enclose_points shear box).vector) sheared
    × Subset sheared (IntervalVector-bounds (Transform-enclose_points shear box).vector)
unfolding transform.computing query.computing pose.computing Matrix4x4-is_affine
shear-same = stored-box-same shear box tt tt refl sheared refl refl

stretch-refused : ((Transform-enclose_points stretch box).refusal ≡ 5) × (Transform-transform_bounds stretch box ≡ Refused 5)
unfolding transform.computing query.computing pose.computing
stretch-refused = (refl, refl)
