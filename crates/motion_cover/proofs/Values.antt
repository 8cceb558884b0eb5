-- The coordinates of a moved point are values of binary32, since each is a rounded sum or quotient:
-- `pose-values` of a pose at dt, `stored-values` of a stored transform.
use Rattle.std.specs.Prelude.{Ok, Err}
use mathlib.Core.Path.{◌≡◌, sym, ap, subst}
use mathlib.Core.Bool.{Bool, true, false, ◌&&◌, cond}
use native.Mathlib.Omega.{arith}
use lib.Dec.{eqb}
use lib.Ieee.{Float, binary32, eq}
use lib.Ieee.Fits.{add-fits, div-fits}
use Rattle.stored_box.specs.float32.Operators.{one}
use Rattle.stored_box.specs.matrix4x4.declared.Matrix4x4.{Matrix4x4}
use Rattle.stored_box.specs.matrix4x4.Rows.{Rows, row, Matrix4x4-to_rows}
use Rattle.stored_box.specs.bounds3.declared.Point3f.{Point3f}
use Rattle.stored_box.specs.bounds3.Point3f.{Point3f-div}
use Rattle.stored_box.specs.bounds3.Finite.{Point3f-is_finite}
use Rattle.stored_box.specs.transform.declared.Transform.{Transform}
use Rattle.stored_box.specs.transform.Answer.{PointAnswer, PointAnswer-refusal, PointAnswer-point}
use Rattle.stored_box.specs.transform.TransformPoint.{mul_point, moved_point, PointAnswer-judged, Transform-transform_point}
use Rattle.stored_box.specs.pose_steps.declared.PoseConstants.{PoseConstants}
use Rattle.stored_box.specs.pose_steps.Pose.{Pose-matrix, Pose-transform_point, Pose-moved_point}
use Rattle.motion_pad.proofs.Box.{Binary32}

-- A point that was judged.
tested-values : (c : Bool) (p q : Point3f) → Binary32 p → cond {A = PointAnswer} c (Ok p) (Err 5) ≡ Ok q → Binary32 q
tested-values true p q v e = subst Binary32 (ap PointAnswer-point e) v
tested-values false p q v e = absurd (omega (arith, ap PointAnswer-refusal e))

pub pose-values : (a : PoseConstants) (s0 s1 : Matrix4x4) (t : Float) (p q : Point3f) → Pose-moved_point a s0 s1 t p ≡ Ok q → Binary32 q
unfolding Pose-moved_point Pose-transform_point
pose-values a s0 s1 t p q e =
    let pose = Pose-matrix a s0 s1 t in
    let moved = Pose-transform_point pose.m p in
    tested-values (eqb pose.refusal 0 && Point3f-is_finite moved) moved q
    (record { x = add-fits binary32 _ _; y = add-fits binary32 _ _; z = add-fits binary32 _ _ }) e

moved-values : (m : Rows) (p : Point3f) → Binary32 (moved_point m p)
unfolding moved_point
moved-values m p = go (eq wp one)
  where
    wp : Float
    wp = mul_point (row m 3) p

    q : Point3f
    q = record { x = mul_point (row m 0) p; y = mul_point (row m 1) p; z = mul_point (row m 2) p }

    go : (b : Bool) → Binary32 (cond b q (Point3f-div q wp))
    go true = record { x = add-fits binary32 _ _; y = add-fits binary32 _ _; z = add-fits binary32 _ _ }
    go false = record { x = div-fits binary32 _ _; y = div-fits binary32 _ _; z = div-fits binary32 _ _ }

pub stored-values : (t : Transform) (p q : Point3f) → Transform-transform_point t p ≡ Ok q → Binary32 q
unfolding Transform-transform_point PointAnswer-judged
stored-values t p q e = tested-values (Point3f-is_finite (moved_point (Matrix4x4-to_rows t.m) p))
    (moved_point (Matrix4x4-to_rows t.m) p) q (moved-values (Matrix4x4-to_rows t.m) p) e
