-- The significand shifted (`angle-near`), or 2 ^ 52 where the exponent shows that the angle is far (`angle-far`).
use Rattle.trig.proofs.Fixed.{angle-digits, angle-near, angle-far}
use Rattle.trig.proofs.angle_units.Goals as goal

pub returns-then-d-gt149 : goal.returns-then-d-gt149
returns-then-d-gt149 c = record {
  value = let d = c.integer_decode-d in
      angle-far c.args.a c.well_formed.0.1 d.result d.ensures.value c.if-d-gt149.true;
}

pub shifted-requires : goal.shifted-requires
shifted-requires c = let d = c.integer_decode-d in record { fact_1 = angle-digits c.args.a c.well_formed.0.1 d.result d.ensures.value; fact_2 = c.if-d-gt149.false }

pub returns : goal.returns
returns c = record {
  value = let d = c.integer_decode-d in
      angle-near c.args.a c.well_formed.0.1 d.result d.ensures.value c.if-d-gt149.false c.shifted.result c.shifted.ensures.value;
}
