-- `motion_bounds` meets its contract: what is asked of the box, then the work.
use borrow.Author.Tests.{eq-eqb, ne_eqb}
use Rattle.motion_bounds.specs.MotionBounds.{motion_bounds}
use Rattle.motion_bounds.specs.Answer.{BoundsAnswer-counted}
use Rattle.motion_bounds.proofs.motion_bounds.Goals as goal

pub returns-then-n-ne0 : goal.returns-then-n-ne0
unfolding motion_bounds BoundsAnswer-counted
returns-then-n-ne0 c = record { value = rw (← c.refusal-n.ensures.value, ne_eqb _ _ c.if-n-ne0.true) }

pub returns : goal.returns
unfolding motion_bounds
returns c = record { value = rw (← c.refusal-n.ensures.value, eq-eqb _ _ c.if-n-ne0.false, c.box_bounds.ensures.value) }
