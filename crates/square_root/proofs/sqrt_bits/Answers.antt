-- The whole number nearest to the widened significand's root makes the bits (`sqrt-bits`), whatever the estimate.
use native.Mathlib.Omega.{arith}
use Rattle.square_root.proofs.Bits.{widened-exact, sqrt-bits}
use Rattle.square_root.proofs.sqrt_bits.Goals as goal

pub returns : goal.returns
returns c =
    let w = c.widening_shift-shift.ensures in
    sqrt-bits c.args.significand c.args.exponent
    c.widening_shift-shift.result c.nearest_root.result _ c.requires.fact_3 w
    (rw (widened-exact w) at c.nearest_root.ensures) (omega arith)

pub overflow_add-result : goal.overflow_add-result
overflow_add-result c = let b = (returns c).below in omega arith
