-- `put_transform` meets its contract: the test for 0 is the definition's.
use Rattle.refusal.proofs.Number.{number-tested}
use Rattle.lent_arrays.specs.Arrays.{TransformAnswer-left}
use Rattle.lent_arrays.proofs.put_transform.Goals as goal

pub returns-in-Ok : goal.returns-in-Ok
unfolding TransformAnswer-left
returns-in-Ok c = record { refusal = rw c.in-Ok.is; left = rw c.in-Ok.is c.transform_rows.ensures.value }

pub returns-in-Err : goal.returns-in-Err
unfolding TransformAnswer-left
returns-in-Err c = record { refusal = rw c.in-Err.is c.number.ensures.value; left = rw (c.in-Err.is, number-tested) }
