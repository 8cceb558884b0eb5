-- Rounded down on either side of zero: a shift of the significand, and below zero of one less (`floor-positive`, `floor-negative`).
use Prim.Native.Nat.{◌^◌, ◌*◌, ◌%◌}
use native.Mathlib.Omega.{arith}
use Rattle.arc_cosine.proofs.Floor.{unit-digits, unit-exponent, positive-part, floor-positive, floor-negative}
use Rattle.arc_cosine.proofs.biased_floor.Goals as goal

pub overflow_sub-n : goal.overflow_sub-n
overflow_sub-n c =
    let d = c.integer_decode-d in
    positive-part d.result.negative (d.result.significand * 2 ^ 30 % 2 ^ 64) c.if-d-n.true

pub shifted-requires : goal.shifted-requires
shifted-requires c = let d = c.integer_decode-d in let l = unit-digits c.args.c c.well_formed.0.1 c.requires d.result d.ensures.value in record { fact_1 = omega (arith, l); fact_2 = unit-exponent c.args.c c.well_formed.0.1 c.requires d.result d.ensures.value }

pub overflow_sub-result-then-d-n : goal.overflow_sub-result-then-d-n
overflow_sub-result-then-d-n c =
    let d = c.integer_decode-d in
    let l = (floor-negative c.args.c c.well_formed.0.1 c.requires d.result d.ensures.value c.shifted.result c.if-d-n.true c.shifted.ensures.value).0 in
    omega (arith, l)

pub returns-then-d-n : goal.returns-then-d-n
returns-then-d-n c = record {
  value = let d = c.integer_decode-d in
      (floor-negative c.args.c c.well_formed.0.1 c.requires d.result d.ensures.value c.shifted.result c.if-d-n.true c.shifted.ensures.value).1;
}

pub shifted-requires-2 : goal.shifted-requires-2
shifted-requires-2 c = let d = c.integer_decode-d in record { fact_1 = unit-digits c.args.c c.well_formed.0.1 c.requires d.result d.ensures.value; fact_2 = unit-exponent c.args.c c.well_formed.0.1 c.requires d.result d.ensures.value }

pub overflow_add-result : goal.overflow_add-result
overflow_add-result c =
    let d = c.integer_decode-d in
    let l = (floor-positive c.args.c c.well_formed.0.1 c.requires d.result d.ensures.value c.shifted-2.result c.if-d-n.false c.shifted-2.ensures.value).0 in
    omega (arith, l)

pub returns : goal.returns
returns c = record {
  value = let d = c.integer_decode-d in
      (floor-positive c.args.c c.well_formed.0.1 c.requires d.result d.ensures.value c.shifted-2.result c.if-d-n.false c.shifted-2.ensures.value).1;
}
