-- `is_finite` meets its contract: the tests of the time, of the matrix and of the pad.
use Rattle.pose_pair.specs.Pose.{Pose-is_finite}
use Rattle.pose_pair.proofs.Pose.is_finite.Goals as goal

pub returns : goal.returns
unfolding Pose-is_finite
returns c = record { value = rw (c.is_finite-3.ensures.value, c.is_finite-2.ensures.value, c.to_rows.ensures.value, c.is_finite.ensures.value) }
