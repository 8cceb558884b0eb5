-- `transform_point` meets its contract: one test of the time and of the point; `time != time` is the test for NaN (`differs-nan`).
use Rattle.bounds3.proofs.rounding.Order.{differs-nan}
use Rattle.motion_rows.specs.TransformPoint.{Rows-transform_point}
use borrow.Author.Rules.{rules}
use Rattle.motion_rows.proofs.transform_point.Goals as goal

pub returns-then-time-is_finite : goal.returns-then-time-is_finite
unfolding Rows-transform_point
returns-then-time-is_finite c = record { value = rw (← differs-nan c.args.time, ← c.is_finite.ensures.value, c.if-time-is_finite.true) }

pub returns : goal.returns
unfolding Rows-transform_point
returns c = record { value = rw (← differs-nan c.args.time, ← c.is_finite.ensures.value, c.if-time-is_finite.false, c.moved_point.ensures.value) }
