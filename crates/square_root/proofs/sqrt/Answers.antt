-- A positive float goes through its significand and exponent (`decoded-sqrt`); the tests leave +infinity, the zeros, and what has no root.
use mathlib.Core.Path.{◌≡◌, sym, subst}
use mathlib.Core.Bool.{true}
use lib.Dec.{T}
use lib.Ieee.{Float, binary32, fits, nan_bits, of_bits, div}
use Rattle.square_root.proofs.Tests.{positive-tests, positive-number, sqrt-infinity, sqrt-zero, sqrt-nan, significand-pos, decoded-sqrt, bits-number}
use Rattle.float_bits.proofs.Decode.{significand-lt, exponent-le}
use Rattle.square_root.proofs.sqrt.Goals as goal

-- What owning an f32 tells: the format holds it.
held : (x : Float) → fits binary32 x ≡ true → T (fits binary32 x)
held x e = subst T (sym e) tt

pub float_from_bits-infinity : goal.float_from_bits-infinity
unfolding nan_bits
float_from_bits-infinity c = tt

pub estimate_bits-requires : goal.estimate_bits-requires
unfolding of_bits
estimate_bits-requires c = positive-number c.args.x (positive-tests c.args.x c.if-x.true c.if-x-infinity.true)

pub sqrt_bits-requires : goal.sqrt_bits-requires
unfolding of_bits
sqrt_bits-requires c =
    let x = c.args.x in
    let p = positive-tests x c.if-x.true c.if-x-infinity.true in
    rw c.integer_decode-d.ensures.value record {
      fact_1 = significand-pos x (held x c.well_formed.0.1) p;
      fact_2 = significand-lt x;
      fact_3 = exponent-le x (held x c.well_formed.0.1);
    }

pub float_from_bits-result : goal.float_from_bits-result
float_from_bits-result c = bits-number c.sqrt_bits.result c.sqrt_bits.ensures.below

pub returns-then-x-infinity : goal.returns-then-x-infinity
unfolding of_bits
returns-then-x-infinity c =
    let x = c.args.x in
    let p = positive-tests x c.if-x.true c.if-x-infinity.true in
    record { value = decoded-sqrt x (held x c.well_formed.0.1) p c.sqrt_bits.result (rw c.integer_decode-d.ensures.value at c.sqrt_bits.ensures) }

pub returns-then-x : goal.returns-then-x
unfolding of_bits
returns-then-x c = record { value = sqrt-infinity binary32 c.args.x c.if-x.true c.if-x-infinity.false }

pub returns-then-x-2 : goal.returns-then-x-2
unfolding of_bits
returns-then-x-2 c = record { value = sqrt-zero binary32 c.args.x c.if-x-2.true }

pub returns : goal.returns
unfolding of_bits div
returns c = record { value = sqrt-nan binary32 c.args.x c.if-x.false c.if-x-2.false }
