-- `point_of` meets its contract: a case for each answer.
use Rattle.stretch_points.proofs.point_of.Goals as goal

pub returns-in-Err : goal.returns-in-Err
returns-in-Err c = record { value = rw c.in-Err.is }
