-- `put_motion_bounds` meets its contract: each arm is its case of the definitions.
use mathlib.Core.Path.{refl}
use Rattle.api.proofs.put_motion_bounds.Goals as goal

pub returns-in-Bounds : goal.returns-in-Bounds
returns-in-Bounds c = record { refusal = rw c.in-Bounds.is refl; left = rw (c.in-Bounds.is, c.bounds_values.ensures.value) refl; examined = rw c.in-Bounds.is refl }

pub returns-in-Refused : goal.returns-in-Refused
returns-in-Refused c = record { refusal = rw c.in-Refused.is refl; left = rw c.in-Refused.is refl; examined = rw c.in-Refused.is refl }
