-- What the searches of a motion box give: zeros as `Stored` says, and counts of at most 511 at a point (`point-examined`) and 511 for each corner of a box
-- (`corners-examined`). Rests on `interval_find_zeros-stored` and `examined-below`.
use Prim.Native.Nat.{ℕ, zero, suc, ◌*◌, ◌≤◌}
use mathlib.Core.Bool.{not}
use native.Mathlib.Omega.{arith}
use Rattle.bounds3.specs.declared.Point3f.{Point3f}
use Rattle.bounds3.specs.declared.Bounds3f.{Bounds3f}
use Rattle.bounds3.specs.Bounds3f.{Bounds3f-corner}
use Rattle.transform.specs.control_flow.Loop.{loop}
use Rattle.transform.proofs.control_flow.Choice.{cond-keeps}
use Rattle.axis_derivative.specs.declared.Derivative.{Derivative}
use Rattle.zero_search.specs.Stored.{Stored}
use Rattle.zero_search.proofs.Stored.{interval_find_zeros-stored}
use Rattle.zero_search.proofs.Examined.{examined-below}
use Rattle.pose_steps.specs.declared.PoseConstants.{PoseConstants}
use Rattle.animated_transform.specs.declared.AnimatedTransform.{AnimatedTransform}
use Rattle.motion_bounds.specs.declared.Examined.{Examined}
use Rattle.motion_bounds.specs.MotionBounds.{axis_search}
use Rattle.motion_bounds.specs.Examined.{Examined-none, Examined-AtMost, point_examined, corners_examined}

pub axis-zeros-stored : (a : PoseConstants) (p : Point3f) (d : Derivative) → Stored (axis_search a p d).zeros
unfolding axis_search
axis-zeros-stored a p d = interval_find_zeros-stored _ _ _ _ _ _

axis-examined : (a : PoseConstants) (p : Point3f) (d : Derivative) → (axis_search a p d).examined ≤ 511
unfolding axis_search
axis-examined a p d = examined-below _ _ _ _ _ _

pub none-examined : (k : ℕ) → Examined-AtMost k Examined-none
none-examined k = record { x = omega arith; y = omega arith; z = omega arith }

pub few-below : {k n : ℕ} {e : Examined} → k ≤ n → Examined-AtMost k e → Examined-AtMost n e
few-below l h = record { x = omega (arith, l, h.x); y = omega (arith, l, h.y); z = omega (arith, l, h.z) }

module _ (m : AnimatedTransform) (a : PoseConstants) where
  pub point-examined : (p : Point3f) → Examined-AtMost 511 (point_examined m a p)
  unfolding point_examined
  point-examined p =
      let c = m.coefficients in
      cond-keeps (Examined-AtMost 511) (not m.actually_animated) _ _ (none-examined 511)
      (record { x = axis-examined a p c.x; y = axis-examined a p c.y; z = axis-examined a p c.z })

  pub corners-examined : (b : Bounds3f) (n : ℕ) → Examined-AtMost (511 * n) (corners_examined m a b n)
  unfolding corners_examined loop
  corners-examined b zero = none-examined 0
  corners-examined b (suc n) =
      let e = corners-examined b n in
      let f = point-examined (Bounds3f-corner b n) in
      record { x = omega (arith, e.x, f.x); y = omega (arith, e.y, f.y); z = omega (arith, e.z, f.z) }
