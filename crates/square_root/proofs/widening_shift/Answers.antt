-- A significand of at most 24 digits has 40 leading zeros or more of 64; shifted by 17 or 16 fewer it has 47 or 48 digits (`widened`).
use native.Mathlib.Omega.{arith}
use lib.Count.{leading_le}
use Rattle.square_root.proofs.Bits.{leading-ge, widened, widened-normal}
use Rattle.square_root.proofs.widening_shift.Goals as goal

pub returns-then-significand-ge-FIELD : goal.returns-then-significand-ge-FIELD
returns-then-significand-ge-FIELD c =
    widened-normal c.args.significand c.args.exponent c.if-significand-ge-FIELD.true c.requires.fact_2

pub overflow_cast-zeros : goal.overflow_cast-zeros
overflow_cast-zeros c = omega (arith, leading_le 64 c.args.significand)

pub overflow_add-result-2 : goal.overflow_add-result-2
overflow_add-result-2 c = omega (arith, leading_le 64 c.args.significand)

pub overflow_add-result-3 : goal.overflow_add-result-3
overflow_add-result-3 c = omega (arith, leading_le 64 c.args.significand)

pub overflow_sub-result : goal.overflow_sub-result
overflow_sub-result c = omega (arith, leading-ge c.args.significand c.requires.fact_1 c.requires.fact_2)

pub returns : goal.returns
returns c =
    widened c.args.significand c.args.exponent _ c.requires.fact_1 c.requires.fact_2
    (omega (arith, leading-ge c.args.significand c.requires.fact_1 c.requires.fact_2))
