-- `put_point` meets its contract: each arm is its case of the definition.
use Rattle.lent_arrays.proofs.put_point.Goals as goal

pub returns-in-Ok : goal.returns-in-Ok
returns-in-Ok c = record { refusal = rw c.in-Ok.is; left = rw c.in-Ok.is }

pub returns-in-Err : goal.returns-in-Err
returns-in-Err c = record { refusal = rw (c.in-Err.is, c.number.ensures.value); left = rw c.in-Err.is }
