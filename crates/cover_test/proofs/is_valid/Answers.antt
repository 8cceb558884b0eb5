-- `is_valid` meets its contract: a call for each part.
use Rattle.cover_lean.specs.means.Test.{PoseConstants-is_valid}
use Rattle.cover_test.proofs.is_valid.Goals as goal

pub returns : goal.returns
unfolding PoseConstants-is_valid
returns c = record { value = rw (c.is_finite_vector.ensures.value, c.is_finite_vector-2.ensures.value, c.is_finite_quaternion.ensures.value, c.is_finite_quaternion-2.ensures.value, c.is_finite.ensures.value, c.is_quarter_angle.ensures.value); numbers = record { t0 = c.is_finite_vector.ensures.numbers; t1 = c.is_finite_vector-2.ensures.numbers; r0 = c.is_finite_quaternion.ensures.numbers; r1 = c.is_finite_quaternion-2.ensures.numbers; cos_theta = c.is_finite.ensures.number; theta = c.is_quarter_angle.ensures.number } }
