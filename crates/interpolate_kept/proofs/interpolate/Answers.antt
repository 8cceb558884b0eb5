-- `interpolate` meets its contract: the tests are those of the move that the rows hold (`by-start`, `by_end`, `by-between`), and `time != time` is the test
-- for NaN (`differs-nan`).
use mathlib.Core.Path.{sym, ◌∙◌}
use lib.Ieee.{Float, div}
use Rattle.transform.proofs.rounding.Order.{differs-nan}
use Rattle.transform.specs.matrix4x4.Rows.{Rows}
use Rattle.transform.specs.Transform.{TransformAnswer}
use Rattle.pose_slerp.specs.unit_interval.Unit.{dt}
use Rattle.interpolation.specs.Interpolate.{Pose-transform, AnimatedTransform-interpolate_by}
use Rattle.motion_rows.specs.Rows.{AnimatedTransform-from_rows, PoseConstants-from_rows}
use Rattle.interpolate_kept.specs.Kept.{Rows-interpolate}
use Rattle.interpolate_kept.proofs.Kept.{by-start, by_end, by-between}
use borrow.Author.Rules.{rules}
use Rattle.interpolate_kept.proofs.interpolate.Goals as goal

-- what is answered between the poses
abbrev between : Rows → Float → TransformAnswer
between rows = let m = AnimatedTransform-from_rows rows in Pose-transform (PoseConstants-from_rows rows) m.s0 m.s1

pub returns-then-time : goal.returns-then-time
unfolding Rows-interpolate AnimatedTransform-interpolate_by
returns-then-time c = record { value = rw (← differs-nan c.args.time, c.if-time.true) }

pub returns-then-constants-time : goal.returns-then-constants-time
unfolding Rows-interpolate AnimatedTransform-from_rows
returns-then-constants-time c = record {
  value = let a = c.args in
      rw (c.judged.ensures.value, c.transform_at.ensures.value)
      (sym (by-start (AnimatedTransform-from_rows a.rows.now) (between a.rows.now) a.time (sym (differs-nan a.time) ∙ c.if-time.false) c.if-constants-time.true));
}

pub returns-then-time-end : goal.returns-then-time-end
unfolding Rows-interpolate AnimatedTransform-from_rows
returns-then-time-end c = record {
  value = let a = c.args in
      rw (c.judged-then-time-end.ensures.value, c.transform_at-then-time-end.ensures.value)
      (sym (by_end (AnimatedTransform-from_rows a.rows.now) (between a.rows.now) a.time (sym (differs-nan a.time) ∙ c.if-time.false)
      c.if-constants-time.false c.if-time-end.true));
}

pub returns : goal.returns
unfolding Rows-interpolate AnimatedTransform-from_rows div dt
returns c = record {
  value = let a = c.args in
      rw c.pose_at.ensures.value
      (sym (by-between (AnimatedTransform-from_rows a.rows.now) (between a.rows.now) a.time (sym (differs-nan a.time) ∙ c.if-time.false)
      c.if-constants-time.false c.if-time-end.false));
}
