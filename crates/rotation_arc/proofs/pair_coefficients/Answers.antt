-- `pair_coefficients` meets its contract: has_rotation chooses the case.
use Rattle.rotation_arc.specs.ArcCoefficients.{pair_coefficients}
use Rattle.rotation_arc.proofs.pair_coefficients.Goals as goal

pub returns-then-has_rotation : goal.returns-then-has_rotation
unfolding pair_coefficients
returns-then-has_rotation c = record { value = rw c.if-has_rotation.true c.rotation_coefficients.ensures.value }

pub returns-else-has_rotation : goal.returns-else-has_rotation
unfolding pair_coefficients
returns-else-has_rotation c = record { value = rw (c.if-has_rotation.false, c.zero.ensures.value) }
