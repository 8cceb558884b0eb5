-- Near, the calls in turn: in the first quarter by the angle's bits (`sin-first-value`, `cos-first-value`), elsewhere by its parts (`sin-value`, `cos-value`).
-- Far, 0 / 0 for both (`sin-far`, `cos-far`).
use mathlib.Core.Bool.{true, false}
use Rattle.float32.proofs.rounding.Order.{differs-nan}
use Rattle.sine_table.specs.QuarterSine.{entry}
use Rattle.trig.proofs.Values.{near-test, sin-value, cos-value, sin-far, cos-far}
use Rattle.trig.proofs.FirstQuarter.{first_range, near-number, first_below, sin-first-value, cos-first-value}
use Rattle.trig.proofs.sin_cos_in.Goals as goal

pub float_to_bits-bits : goal.float_to_bits-bits
float_to_bits-bits c =
    let a = c.args.a in
    rw (← differs-nan a, near-number a (near-test a c.abs.result true c.abs.ensures.value c.if-abs.true)) tt

pub first_quarter_units-requires : goal.first_quarter_units-requires
first_quarter_units-requires c = first_range _ c.if-bits.true

pub first_quarter_sin_cos-requires : goal.first_quarter_sin_cos-requires
first_quarter_sin_cos-requires c =
    let r = first_range _ c.if-bits.true in
    rw c.first_quarter_units.ensures.value (first_below _ r.0 r.1)

pub returns-then-bits : goal.returns-then-bits
returns-then-bits c = record {
  value = let T = entry c.args.table.now in
      let a = c.args.a in
      let near = near-test a c.abs.result true c.abs.ensures.value c.if-abs.true in
      let b = first_range _ c.if-bits.true in
      let u = c.first_quarter_units in
      let r = c.first_quarter_sin_cos in (
        sin-first-value a c.well_formed.1.0.1 near b.0 b.1 T u.result u.ensures.value r.result.sin r.ensures.sin,
        cos-first-value a c.well_formed.1.0.1 near b.0 b.1 T u.result u.ensures.value r.result.cos r.ensures.cos,
      );
}

pub returns-then-abs : goal.returns-then-abs
returns-then-abs c = record {
  value = let t = c.args.table.now in
      let a = c.args.a in
      let b = c.abs in
      let near = near-test a b.result true b.ensures.value c.if-abs.true in
      let d = c.integer_decode-d in
      let u = c.angle_units in
      let r = c.units_sin_cos in (
        sin-value (entry t) a near u.result r.result.sin u.ensures.value d.result d.ensures.value r.ensures.sin,
        cos-value (entry t) a near u.result r.result.cos u.ensures.value r.ensures.cos,
      );
}

pub returns : goal.returns
returns c = record {
  value = let a = c.args.a in
      let far = near-test a c.abs.result false c.abs.ensures.value c.if-abs.false in
      let T = entry c.args.table.now in
      (sin-far T a far, cos-far T a far);
}
