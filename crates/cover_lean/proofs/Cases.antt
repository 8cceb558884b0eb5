-- What the laws ask is met, by computing: a move that turns by an eighth of a full turn about z, shifts and has pads, judged over all of dt, and a
-- quarter of dt leanly.
use mathlib.Core.Path.{◌≡◌, refl}
use mathlib.Core.Bool.{Bool, true, false}
use lib.Dec.{T, lit<}
use lib.Ieee.{Float, binary32, of_bits, fits}
use Rattle.dt_share.specs.float32.Operators.{positive_zero, one}
use Rattle.pose_lean.specs.bounds3.declared.Bounds3f.{Bounds3f}
use Rattle.pose_lean.specs.transform.declared.BoundsAnswer.{BoundsAnswer}
use Rattle.pose_lean.specs.transform.declared.BoundsAnswer.TheVariants.{Bounds, Refused}
use Rattle.pose_lean.specs.transform.Answer.{BoundsAnswer-bounds}
use Rattle.bounds_answers.specs.bounds_query.Query.{Bounds3f-refusal}
use Rattle.bounds_answers.specs.bounds_query.Same.{BoundsAnswer-Same}
use Rattle.dt_share.specs.unit_interval.Unit.{slice}
use Rattle.dt_share.proofs.unit_interval.Slices.{slice-unit, slice-finer}
use Rattle.pose_lean.specs.pose_steps.declared.PoseConstants.{PoseConstants}
use Rattle.pose_lean.specs.pose_steps.Pose.{Matrix4x4-identity}
use Rattle.pose_lean.specs.means.Lean.{Lean-box}
use Rattle.pose_lean.specs.means.Values.{ScaleValues, PoseValues, Bounds3f-Values}
use Rattle.bounds_answers.specs.motion_cover.means.Computing as cover
use Rattle.bounds_answers.proofs.motion_cover.Proper.{box-refines}
use Rattle.bounds_answers.specs.cover_depth.means.Piece.{Pose-enclose_bounds, Enclosable}
use Rattle.cover_lean.specs.means.Test.{Vector3f-is_finite, is_finite_front, is_finite_scale, is_quarter_angle, is_pad, PoseConstants-is_valid, Pose-is_enclosable}
use Rattle.cover_lean.proofs.Piece.{piece-lean}
use Rattle.cover_lean.proofs.Union.{slice-proper}
use Rattle.cover_lean.proofs.Test.{tested-enclosable}

-- The root of a half, and an eighth of a full turn.
abbrev root_half : Float
root_half = of_bits binary32 0x3f3504f3

abbrev eighth : Float
eighth = of_bits binary32 0x3f490fdb

abbrev turning : PoseConstants
turning = record {
  t0 = record { x = positive_zero; y = positive_zero; z = positive_zero };
  t1 = record { x = one; y = one; z = one };
  r0 = record { v = record { x = positive_zero; y = positive_zero; z = positive_zero }; w = one };
  r1 = record { v = record { x = positive_zero; y = positive_zero; z = root_half }; w = root_half };
  cos_theta = root_half;
  theta = eighth;
  rigid = false;
}

abbrev cube : Bounds3f
cube = record { p_min = record { x = positive_zero; y = positive_zero; z = positive_zero }; p_max = record { x = one; y = one; z = one } }

abbrev judged : BoundsAnswer
judged = Pose-enclose_bounds turning Matrix4x4-identity Matrix4x4-identity positive_zero one (slice 0 0) cube

turning-enclosable : Enclosable turning Matrix4x4-identity Matrix4x4-identity positive_zero one
turning-enclosable =
    tested-enclosable turning Matrix4x4-identity Matrix4x4-identity positive_zero one (unfold fits of_bits in tt) (unfold fits of_bits in tt) passed
  where
    passed : T (Pose-is_enclosable turning Matrix4x4-identity Matrix4x4-identity positive_zero one)
    passed = unfold cover.computing Pose-is_enclosable PoseConstants-is_valid is_finite_scale is_finite_front is_pad is_quarter_angle Vector3f-is_finite in tt

turning-values : PoseValues turning Matrix4x4-identity Matrix4x4-identity
unfolding fits of_bits
turning-values =
    let s : ScaleValues Matrix4x4-identity = record { r0 = (tt, (tt, (tt, tt))); r1 = (tt, (tt, (tt, tt))); r2 = (tt, (tt, (tt, tt))) } in
    record {
      constants = record {
        t0 = (tt, (tt, (tt, tt)));
        t1 = (tt, (tt, (tt, tt)));
        r0 = (tt, (tt, (tt, (tt, tt))));
        r1 = (tt, (tt, (tt, (tt, tt))));
        cos_theta = tt;
        theta = tt;
      };
      scale0 = s;
      scale1 = s;
    }

cube-values : Bounds3f-Values cube
unfolding fits of_bits
cube-values = record { low = (tt, (tt, (tt, tt))); high = (tt, (tt, (tt, tt))) }

cube-accepted : Bounds3f-refusal cube ≡ 0
unfolding cover.computing
cube-accepted = refl

abbrev is_box : BoundsAnswer → Bool
is_box (Bounds b) = true
is_box (Refused n) = false

box-answered : (r : BoundsAnswer) → T (is_box r) → r ≡ Bounds (BoundsAnswer-bounds r)
box-answered (Bounds b) h = refl
box-answered (Refused n) h = absurd h

turning-accepted : T (is_box judged)
unfolding cover.computing
turning-accepted = tt

second-quarter : BoundsAnswer-Same (Pose-enclose_bounds turning Matrix4x4-identity Matrix4x4-identity positive_zero one (slice 2 1) cube)
    (Bounds (Lean-box turning Matrix4x4-identity Matrix4x4-identity positive_zero one (slice 2 1) cube))
second-quarter =
    piece-lean turning-enclosable turning-values cube (box-refines cube cube-accepted) cube-values (slice 2 1) (slice 0 0) (BoundsAnswer-bounds judged)
    (slice-proper 2 1 (lit< tt)) (slice-finer 0 2 1) (slice-unit 0 0 (lit< tt)) (box-answered judged turning-accepted)
