-- `is_finite` meets its contract: each call is the finite test of a row.
use Rattle.matrix4x4.specs.IsFinite.{Matrix4x4-is_finite}
use Rattle.matrix4x4.proofs.is_finite.Goals as goal

pub returns : goal.returns
unfolding Matrix4x4-is_finite
returns c = record { value = rw (c.row_is_finite.ensures.value, c.row_is_finite-2.ensures.value, c.row_is_finite-3.ensures.value, c.row_is_finite-4.ensures.value) }
