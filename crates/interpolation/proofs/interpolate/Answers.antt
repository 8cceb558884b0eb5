-- `interpolate` meets its contract: three tests choose, and `time != time` is the test for NaN (`differs-nan`).
use mathlib.Core.Path.{sym, ap, ◌∙◌}
use mathlib.Core.Bool.{Bool, cond}
use lib.Ieee.{Float}
use Rattle.matrix4x4.proofs.rounding.Order.{differs-nan}
use Rattle.transform.specs.Transform.{TransformAnswer}
use Rattle.unit_interval.specs.Unit.{dt}
use Rattle.animated_transform.specs.declared.AnimatedTransform.{AnimatedTransform}
use Rattle.animated_transform.specs.AtTime.{at_end}
use Rattle.interpolation.specs.Interpolate.{TransformAnswer-judged, AnimatedTransform-pose_at, AnimatedTransform-interpolate_by}
use borrow.Author.Rules.{rules}
use Rattle.interpolation.proofs.interpolate.Goals as goal

-- for a time that isn't NaN, by the answer of the second test
abbrev known : AnimatedTransform → Float → Bool → TransformAnswer
known m time b =
    cond b (TransformAnswer-judged m.start_transform)
    (cond (at_end m time) (TransformAnswer-judged m.end_transform) (AnimatedTransform-pose_at m (dt m.start_time m.end_time time)))

pub returns-then-time : goal.returns-then-time
unfolding AnimatedTransform-interpolate_by
returns-then-time c = record { value = rw (← differs-nan c.args.time, c.if-time.true) }

pub returns-then-m-time : goal.returns-then-m-time
unfolding AnimatedTransform-interpolate_by
returns-then-m-time c = record {
  value = let args = c.args in
      rw (← differs-nan args.time, c.if-time.false) (c.judged.ensures.value ∙ sym (ap (known args.m args.time) c.if-m-time.true));
}

pub returns-then-time-m : goal.returns-then-time-m
unfolding AnimatedTransform-interpolate_by
returns-then-time-m c = record { value = rw (← differs-nan c.args.time, c.if-time.false, c.if-m-time.false, c.if-time-m.true, c.judged-then-time-m.ensures.value) }

pub returns : goal.returns
unfolding AnimatedTransform-interpolate_by
returns c = record { value = rw (← differs-nan c.args.time, c.if-time.false, c.if-m-time.false, c.if-time-m.false, c.pose_at.ensures.value, c.dt.ensures.value) }
