-- `point_bounds` meets its contract: one test, then the axes.
use Rattle.motion_bounds.specs.MotionBounds.{point_bounds}
use Rattle.motion_bounds.specs.Examined.{point_examined}
use Rattle.motion_bounds.proofs.point_bounds.Goals as goal

pub returns-then-not-m : goal.returns-then-not-m
unfolding point_bounds point_examined
returns-then-not-m c = record { value = rw (c.if-not-m.true, c.counted.ensures.value, c.from_moved.ensures.value, c.transform_point-start.ensures.value) }

pub returns : goal.returns
unfolding point_bounds point_examined
returns c = record {
  value = rw (
    c.if-not-m.false,
    c.union_axes.ensures.value,
    c.from_ends.ensures.value,
    c.transform_point.ensures.value,
    c.transform_point-start.ensures.value,
  );
}
