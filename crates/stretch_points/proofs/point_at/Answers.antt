-- `point_at` meets its contract. Where an argument is refused, and before, at and after the end times, it is the query itself;
-- between them the pose is composed with slerp's rotation (`between-query`).
use mathlib.Core.Path.{refl}
use lib.Ieee.{div}
use Rattle.pose_steps.specs.unit_interval.Unit.{dt}
use Rattle.motion_rows.specs.Rows.{AnimatedTransform-from_rows}
use Rattle.stretch_points.specs.means.Stretch.{Stretch-of}
use Rattle.stretch_points.proofs.Between.{between-query}
use Rattle.stretch_points.proofs.point_at.Goals as goal

pub slerp-requires : goal.slerp-requires
unfolding Stretch-of
slerp-requires c = rw c.requires

pub returns : goal.returns
unfolding AnimatedTransform-from_rows Stretch-of div dt
returns c = record {
  value = let a = c.args in
      rw (c.composed_point.ensures.value, c.slerp.ensures.value, c.requires)
      (between-query a.motion.now a.time a.p (rw (← c.is_finite.ensures.value) c.if-time-is_finite.false) _ _ refl refl);
}
