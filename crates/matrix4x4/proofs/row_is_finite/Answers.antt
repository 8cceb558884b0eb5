-- `row_is_finite` meets its contract: each call is the finite test of an entry.
use Rattle.matrix4x4.proofs.row_is_finite.Goals as goal

pub returns : goal.returns
returns c = record { value = rw (c.is_finite.ensures.value, c.is_finite-2.ensures.value, c.is_finite-3.ensures.value, c.is_finite-4.ensures.value) }
