-- `is_finite_box` meets its contract: a call for each corner.
use Rattle.bounds3.specs.Finite.{Bounds3f-is_finite}
use Rattle.cover_test.proofs.is_finite_box.Goals as goal

pub returns : goal.returns
unfolding Bounds3f-is_finite
returns c = record { value = rw (c.is_finite_point.ensures.value, c.is_finite_point-2.ensures.value); numbers = record { low = c.is_finite_point.ensures.numbers; high = c.is_finite_point-2.ensures.numbers } }
