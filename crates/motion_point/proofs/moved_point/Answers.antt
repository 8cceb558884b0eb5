-- `moved_point` meets its contract: two tests choose the stored transforms, and what is left is the pose at dt.
use mathlib.Core.Path.{sym, ap, ◌∙◌}
use mathlib.Core.Bool.{Bool, cond}
use lib.Ieee.{Float}
use Rattle.bounds3.specs.declared.Point3f.{Point3f}
use Rattle.transform.specs.Answer.{PointAnswer}
use Rattle.transform.specs.TransformPoint.{Transform-transform_point}
use Rattle.unit_interval.specs.Unit.{dt}
use Rattle.pose_steps.specs.declared.PoseConstants.{PoseConstants}
use Rattle.pose_steps.specs.Pose.{Pose-moved_point}
use Rattle.animated_transform.specs.declared.AnimatedTransform.{AnimatedTransform}
use Rattle.motion_point.specs.TransformPoint.{AnimatedTransform-moved_point}
use borrow.Author.Rules.{rules}
use Rattle.motion_point.proofs.moved_point.Goals as goal

-- after the start, by the answer of the second test
abbrev late : AnimatedTransform → PoseConstants → Float → Point3f → Bool → PointAnswer
late m a time p b = cond b (Transform-transform_point m.end_transform p) (Pose-moved_point a m.s0 m.s1 (dt m.start_time m.end_time time) p)

pub returns-then-m-time : goal.returns-then-m-time
unfolding AnimatedTransform-moved_point
returns-then-m-time c = record { value = rw (c.if-m-time.true, c.transform_point.ensures.value) }

pub returns-then-time-m : goal.returns-then-time-m
unfolding AnimatedTransform-moved_point
returns-then-time-m c = record {
  value = let args = c.args in
      rw c.if-m-time.false (c.transform_point-then-time-m.ensures.value ∙ sym (ap (late args.m args.a args.time args.p) c.if-time-m.true));
}

pub returns : goal.returns
unfolding AnimatedTransform-moved_point
returns c = record {
  value = let args = c.args in
      rw (c.if-m-time.false, c.moved_point.ensures.value, c.dt.ensures.value) (sym (ap (late args.m args.a args.time args.p) c.if-time-m.false));
}
