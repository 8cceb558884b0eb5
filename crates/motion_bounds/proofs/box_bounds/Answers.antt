-- `box_bounds` meets its contract: two tests choose what is joined.
use Rattle.motion_bounds.specs.MotionBounds.{box_bounds}
use Rattle.motion_bounds.specs.Examined.{box_examined}
use Rattle.motion_bounds.proofs.box_bounds.Goals as goal

pub returns-then-not-m : goal.returns-then-not-m
unfolding box_bounds box_examined
returns-then-not-m c = record { value = rw (c.if-not-m.true, c.counted.ensures.value, c.transform_bounds-start.ensures.value) }

pub returns-then-not-m-2 : goal.returns-then-not-m-2
unfolding box_bounds box_examined
returns-then-not-m-2 c = record {
  value = rw (
    c.if-not-m.false,
    c.if-not-m-2.true,
    c.counted-then-not-m-2.ensures.value,
    c.union_bounds-ends.ensures.value,
    c.transform_bounds.ensures.value,
    c.transform_bounds-start.ensures.value,
  );
}

pub returns : goal.returns
unfolding box_bounds box_examined
returns c = record { value = rw (c.if-not-m.false, c.if-not-m-2.false, c.union_corners.ensures.value, c.constants.ensures.value) }
