-- The sum of the two halves, each scaled (`from_halves`).
use native.Mathlib.Omega.{arith}
use Rattle.trig.proofs.FromUnits.{half-casts, from_halves}
use Rattle.trig.proofs.from_units.Goals as goal

pub int_to_float-result : goal.int_to_float-result
int_to_float-result c = half-casts _ (omega arith)

pub int_to_float-result-2 : goal.int_to_float-result-2
int_to_float-result-2 c = half-casts _ (omega arith)

pub returns : goal.returns
returns c = record { value = from_halves c.args.n (omega arith) }
