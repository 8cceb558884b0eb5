-- `pad_at` meets its contract: the tests are the definition's, of the move that the rows hold.
use Rattle.motion_rows.specs.Rows.{AnimatedTransform-from_rows}
use Rattle.motion_rows.specs.motion_point.PadAt.{AnimatedTransform-pad_at}
use borrow.Author.Rules.{rules}
use Rattle.pad_query.proofs.pad_at.Goals as goal

pub returns-then-not-constants : goal.returns-then-not-constants
unfolding AnimatedTransform-pad_at AnimatedTransform-from_rows
returns-then-not-constants c = record { value = rw c.if-not-constants.true c.larger.ensures.value }

pub returns-then-time-start : goal.returns-then-time-start
unfolding AnimatedTransform-pad_at AnimatedTransform-from_rows
returns-then-time-start c = record { value = rw (c.if-not-constants.false, c.if-time-start.true) }

pub returns-then-time-end : goal.returns-then-time-end
unfolding AnimatedTransform-pad_at AnimatedTransform-from_rows
returns-then-time-end c = record { value = rw (c.if-not-constants.false, c.if-time-start.false, c.if-time-end.true) }

pub returns : goal.returns
unfolding AnimatedTransform-pad_at AnimatedTransform-from_rows
returns c = record { value = rw (c.if-not-constants.false, c.if-time-start.false, c.if-time-end.false, ← c.dt.ensures.value) c.lerp.ensures.value }
