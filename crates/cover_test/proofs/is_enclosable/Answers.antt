-- `is_enclosable` meets its contract: a call for each part.
use Rattle.cover_lean.specs.means.Test.{Pose-is_enclosable}
use Rattle.cover_test.proofs.is_enclosable.Goals as goal

pub returns : goal.returns
unfolding Pose-is_enclosable
returns c = record { value = rw (c.is_valid.ensures.value, c.is_finite_scale.ensures.value, c.is_finite_scale-2.ensures.value, c.is_pad.ensures.value, c.is_pad-2.ensures.value); numbers = record { constants = c.is_valid.ensures.numbers; scale0 = c.is_finite_scale.ensures.numbers; scale1 = c.is_finite_scale-2.ensures.numbers; pad0-number = c.is_pad.ensures.number; pad1-number = c.is_pad-2.ensures.number } }
