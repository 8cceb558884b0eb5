-- Between the end times a point query of a kept move is the pose at dt, composed with slerp's rotation: `between-query`. `none-of-five` takes the code's
-- one test apart.
use mathlib.Core.Path.{◌≡◌, refl, sym, ◌∙◌}
use mathlib.Core.Bool.{Bool, true, false, not, true≢false, ◌||◌}
use lib.Ieee.{Float, le, ne}
use Rattle.bounds3.proofs.rounding.Order.{differs-nan}
use Rattle.matrix4x4.specs.Rows.{Rows}
use Rattle.bounds3.specs.declared.Point3f.{Point3f}
use Rattle.bounds3.specs.Finite.{Point3f-is_finite}
use Rattle.quaternion.specs.declared.Quaternion.{Quaternion}
use Rattle.pose_steps.specs.unit_interval.Unit.{dt}
use Rattle.pose_steps.specs.Pose.{Pose-slerp}
use Rattle.pose.specs.means.Composition.{Pose-composed_point}
use Rattle.pose.proofs.GivenRotation.{moved_point-composition}
use Rattle.motion_rows.specs.animated_transform.AtTime.{at_start}
use Rattle.motion_rows.proofs.motion_point.Query.{moved-point-between}
use Rattle.motion_rows.specs.Rows.{AnimatedTransform-from_rows, PoseConstants-from_rows}
use Rattle.motion_rows.specs.TransformPoint.{Rows-transform_point}

or_left : (a b : Bool) → (a || b) ≡ false → a ≡ false
or_left true b h = absurd (true≢false h)
or_left false b h = refl

or_right : (a b : Bool) → (a || b) ≡ false → b ≡ false
or_right true b h = absurd (true≢false h)
or_right false b h = h

not-false : (a : Bool) → not a ≡ false → a ≡ true
not-false true h = refl
not-false false h = absurd (true≢false h)

module _ (rows : Rows) (time : Float) (p : Point3f) where
  -- The code's one test: the time is NaN, or the point isn't finite, or a stored transform moves it.
  abbrev stored : Bool
  stored =
      ne time time || not (Point3f-is_finite p) || not (AnimatedTransform-from_rows rows).actually_animated
      || le time (AnimatedTransform-from_rows rows).start_time || le (AnimatedTransform-from_rows rows).end_time time

  pub between-query : stored ≡ false → (rotate : Quaternion) (t : Float) → t ≡ dt (AnimatedTransform-from_rows rows).start_time (AnimatedTransform-from_rows rows).end_time time
      → rotate ≡ Pose-slerp (PoseConstants-from_rows rows) t
      → Pose-composed_point (PoseConstants-from_rows rows) rotate (AnimatedTransform-from_rows rows).s0 (AnimatedTransform-from_rows rows).s1 t p
      ≡ Rows-transform_point rows time p
  unfolding Rows-transform_point
  between-query h rotate t T R =
      let m = AnimatedTransform-from_rows rows in
      let a = PoseConstants-from_rows rows in
      let n : Bool = ne time time in
      let f : Bool = not (Point3f-is_finite p) in
      let k : Bool = not m.actually_animated in
      let s : Bool = le time m.start_time in
      let e : Bool = le m.end_time time in
      let h4 = or_left (n || f || k || s) e h in
      let h3 = or_left (n || f || k) s h4 in
      let h2 = or_left (n || f) k h3 in
      let start : at_start m time ≡ false = rw (or_right (n || f) k h3, or_right (n || f || k) s h4) in
      rw (R, T, sym (differs-nan time) ∙ or_left n f h2, not-false (Point3f-is_finite p) (or_right n f h2))
      (moved_point-composition a m.s0 m.s1 (dt m.start_time m.end_time time) p
      ∙ sym (moved-point-between m a time p start (or_right (n || f || k || s) e h)))
