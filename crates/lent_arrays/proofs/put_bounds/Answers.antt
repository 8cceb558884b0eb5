-- `put_bounds` meets its contract: each arm is its case of the definition.
use Rattle.lent_arrays.proofs.put_bounds.Goals as goal

pub returns-in-Bounds : goal.returns-in-Bounds
returns-in-Bounds c = record { refusal = rw c.in-Bounds.is; left = rw (c.in-Bounds.is, c.bounds_values.ensures.value) }
