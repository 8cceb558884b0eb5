-- `moved_point` meets its contract: the tests and the three poses are those of the move that the rows hold (`moved-point-start`,
-- `moved-point-end`, `moved-point-between`).
use mathlib.Core.Path.{sym}
use lib.Ieee.{div}
use Rattle.pose_steps.specs.unit_interval.Unit.{dt}
use Rattle.motion_point.proofs.Query.{moved-point-start, moved-point-end, moved-point-between}
use Rattle.motion_rows.specs.Rows.{AnimatedTransform-from_rows, PoseConstants-from_rows}
use borrow.Author.Rules.{rules}
use Rattle.motion_rows.proofs.moved_point.Goals as goal

pub returns-then-constants-time : goal.returns-then-constants-time
unfolding AnimatedTransform-from_rows
returns-then-constants-time c = record {
  value = let a = c.args in
      let m = AnimatedTransform-from_rows a.rows.now in
      rw (c.transform_point.ensures.value, c.transform_at.ensures.value)
      (sym (moved-point-start m (PoseConstants-from_rows a.rows.now) a.time a.p c.if-constants-time.true));
}

pub returns-then-time-end : goal.returns-then-time-end
unfolding AnimatedTransform-from_rows
returns-then-time-end c = record {
  value = let a = c.args in
      let m = AnimatedTransform-from_rows a.rows.now in
      rw (c.transform_point-then-time-end.ensures.value, c.transform_at-then-time-end.ensures.value)
      (sym (moved-point-end m (PoseConstants-from_rows a.rows.now) a.time a.p c.if-constants-time.false c.if-time-end.true));
}

pub returns : goal.returns
unfolding AnimatedTransform-from_rows div dt
returns c = record {
  value = let a = c.args in
      let m = AnimatedTransform-from_rows a.rows.now in
      rw (c.moved_point.ensures.value, c.matrix_at-2.ensures.value, c.matrix_at.ensures.value, c.constants_from_rows.ensures.value)
      (sym (moved-point-between m (PoseConstants-from_rows a.rows.now) a.time a.p c.if-constants-time.false c.if-time-end.false));
}
