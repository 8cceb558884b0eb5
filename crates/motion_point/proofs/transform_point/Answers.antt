-- `transform_point` meets its contract: one test of the time and of the point; `time != time` is the test for NaN (`differs-nan`).
use Rattle.std.specs.Prelude.{Err}
use mathlib.Core.Path.{sym, ap}
use mathlib.Core.Bool.{Bool, cond}
use lib.Ieee.{Float}
use Rattle.bounds3.specs.declared.Point3f.{Point3f}
use Rattle.transform.specs.Answer.{PointAnswer}
use Rattle.animated_transform.specs.declared.AnimatedTransform.{AnimatedTransform}
use Rattle.motion_point.specs.TransformPoint.{AnimatedTransform-constants, AnimatedTransform-moved_point, AnimatedTransform-transform_point}
use Rattle.bounds3.proofs.rounding.Order.{differs-nan}
use borrow.Author.Rules.{rules}
use Rattle.motion_point.proofs.transform_point.Goals as goal

-- by the answer of the test
abbrev asked : AnimatedTransform → Float → Point3f → Bool → PointAnswer
asked m time p b = cond b (Err 6) (AnimatedTransform-moved_point m (AnimatedTransform-constants m) time p)

pub returns-then-time-is_finite : goal.returns-then-time-is_finite
unfolding AnimatedTransform-transform_point
returns-then-time-is_finite c = record {
  value = let args = c.args in
      rw (← differs-nan args.time, ← c.is_finite.ensures.value) (sym (ap (asked args.m args.time args.p) c.if-time-is_finite.true));
}

pub returns : goal.returns
unfolding AnimatedTransform-transform_point
returns c = record {
  value = let args = c.args in
      rw (← differs-nan args.time, ← c.is_finite.ensures.value, c.moved_point.ensures.value, c.constants.ensures.value)
      (sym (ap (asked args.m args.time args.p) c.if-time-is_finite.false));
}
