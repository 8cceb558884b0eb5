-- How many intervals the zero search of a motion box examines on each axis: `point_examined`, `box_examined`. Document 02, Examined intervals, counted:
-- "Each equals exactly the number of intervals that the search's definition examines, roots included". They are counted by the search whose zeros the
-- box joins, `axis_search`. Definitions only.
use Rattle.std.specs.Prelude.{ℕ, ◌+◌, ◌≤◌, not, ◌||◌, cond}
use Rattle.bounds3.specs.declared.Point3f.{Point3f}
use Rattle.bounds3.specs.declared.Bounds3f.{Bounds3f}
use Rattle.bounds3.specs.Bounds3f.{Bounds3f-corner}
use Rattle.transform.specs.control_flow.Loop.{loop}
use Rattle.pose_steps.specs.declared.PoseConstants.{PoseConstants}
use Rattle.animated_transform.specs.declared.AnimatedTransform.{AnimatedTransform}
use Rattle.motion_point.specs.TransformPoint.{AnimatedTransform-constants}
use Rattle.motion_bounds.specs.declared.Examined.{Examined}
use Rattle.motion_bounds.specs.MotionBounds.{axis_search}

abbrev pub Examined-none : Examined
Examined-none = record { x = 0; y = 0; z = 0 }

abbrev pub Examined-add : Examined → Examined → Examined
Examined-add e f = record { x = e.x + f.x; y = e.y + f.y; z = e.z + f.z }

-- "for a point at most 511": the statement of `point-examined`, and with 4,088 of `box-examined`
pub record Examined-AtMost (k : ℕ) (e : Examined) : Type 0 where
  pub x : e.x ≤ k
  pub y : e.y ≤ k
  pub z : e.z ≤ k

module _ (m : AnimatedTransform) (a : PoseConstants) where
  -- "A box or point whose poses are equal .. needs no search and has three zeros."
  unfoldable pub point_examined : Point3f → Examined
  point_examined p =
      let c = m.coefficients in
      cond (not m.actually_animated) Examined-none
      (record { x = (axis_search a p c.x).examined; y = (axis_search a p c.y).examined; z = (axis_search a p c.z).examined })

  -- "for a box the sum over its eight corners", the first n of them
  unfoldable pub corners_examined : Bounds3f → ℕ → Examined
  corners_examined b n = loop (λ i e. Examined-add e (point_examined (Bounds3f-corner b i))) n Examined-none

-- "or a box of a move without rotation"
unfoldable pub box_examined : AnimatedTransform → Bounds3f → Examined
box_examined m b =
    cond (not m.actually_animated || not m.has_rotation) Examined-none (corners_examined m (AnimatedTransform-constants m) b 8)
