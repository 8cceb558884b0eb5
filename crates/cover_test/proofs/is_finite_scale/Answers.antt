-- `is_finite_scale` meets its contract: a call for each row.
use Rattle.cover_lean.specs.means.Test.{is_finite_scale}
use Rattle.cover_test.proofs.is_finite_scale.Goals as goal

pub returns : goal.returns
unfolding is_finite_scale
returns c = record { value = rw (c.is_finite_front.ensures.value, c.is_finite_front-2.ensures.value, c.is_finite_front-3.ensures.value); numbers = record { r0 = c.is_finite_front.ensures.numbers; r1 = c.is_finite_front-2.ensures.numbers; r2 = c.is_finite_front-3.ensures.numbers } }
