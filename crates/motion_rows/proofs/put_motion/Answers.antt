-- `put_motion` meets its contract: the test for 0 is the definition's.
use Rattle.refusal.proofs.Number.{number-tested}
use Rattle.motion_rows.specs.Rows.{AnimatedTransformAnswer-left}
use Rattle.motion_rows.proofs.put_motion.Goals as goal

pub returns-in-Ok : goal.returns-in-Ok
unfolding AnimatedTransformAnswer-left
returns-in-Ok c = record { refusal = rw c.in-Ok.is; left = rw c.in-Ok.is c.to_rows.ensures.value }

pub returns-in-Err : goal.returns-in-Err
unfolding AnimatedTransformAnswer-left
returns-in-Err c = record { refusal = rw c.in-Err.is c.number.ensures.value; left = rw (c.in-Err.is, number-tested) }
