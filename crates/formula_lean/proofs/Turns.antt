-- The lean sine and cosine stand for the cover's: `sine-stands`, `cosine-stands`. Of angles both are finite.
use mathlib.Core.Path.{◌≡◌, sym, subst, ◌∙◌}
use lib.Dec.{T}
use lib.Ieee.{Float, binary32, of_bits, le, neg}
use lib.Ieee.Fits.{and_i, and_l, and_r}
use lib.Ieee.Scale.{finite}
use Rattle.alike.specs.rounding.Order.{◌≼◌}
use Rattle.alike.proofs.rounding.Corners.{Bounds}
use Rattle.alike.proofs.rounding.Order.{≼_refl, ≼_trans, finite_number, number-left, between-finite}
use Rattle.alike.specs.float32.Operators.{one}
use Rattle.alike.proofs.float32.Constants.{one-finite}
use Rattle.alike.specs.trig.SinCos.{sin, cos}
use Rattle.alike.specs.trig.Range.{Angle, full_turn_float}
use Rattle.alike.proofs.trig.Range as Range
use Rattle.alike.specs.interval.declared.Interval.{Interval}
use Rattle.alike.specs.interval.Contains.{Finite}
use Rattle.alike.specs.interval.Interval.{Interval-new, Interval-point}
use Rattle.alike.specs.interval.Enclosure.{Interval-sin_enclosure, Interval-cos_enclosure}
use Rattle.alike.specs.interval.Extension.{Angles}
use Rattle.alike.proofs.interval.Points.{point-angle, sin-point, cos-point}
use Rattle.alike.proofs.trig.Monotone.{angle-finite, sin-unit, cos-unit, angle-near}
use Rattle.alike.specs.means.Alike.{Interval-Alike, Interval-new_ordered}
use Rattle.alike.specs.means.Angles.{QuarterAngles}
use Rattle.alike.proofs.Equivalence.{alike-≼}
use Rattle.alike.proofs.Intervals.{interval-sym, interval-trans, interval-finite, interval-self}
use Rattle.alike.proofs.Constant.{ordered-alike, ordered-finite, new-ordered}
use Rattle.alike.proofs.Angles.{sin-new, cos-new}
use Rattle.alike.proofs.Turns.{ProperAlike, sin-turn, cos-turn}
use Rattle.formula_lean.specs.means.Lean.{Lean, nought, unit, number, factor, span, range, Lean-interval, Lean-Finite, Lean-sine, Lean-cosine, Lean-Angles}
use Rattle.formula_lean.proofs.Operations.{Stands, lean-finite}

-- ---- sine and cosine of angles are finite
minus-finite : T (finite (neg one))
unfolding of_bits neg
minus-finite = tt

unit-finite : {x : Float} → Bounds (neg one) one x → T (finite x)
unit-finite b = between-finite minus-finite one-finite b.below b.above

module _ (P : Interval) (d : Angles P) (r : P.low ≼ P.high) where
  from_zero : of_bits binary32 0 ≼ P.low
  from_zero = record { holds = and_l (le (of_bits binary32 0) P.low) (le P.high full_turn_float) d }

  to-full : P.high ≼ full_turn_float
  to-full = record { holds = and_r (le (of_bits binary32 0) P.low) (le P.high full_turn_float) d }

  low : Angle P.low
  low = record { from_zero = from_zero; to-full-turn = ≼_trans r to-full }

  high : Angle P.high
  high = record { from_zero = ≼_trans from_zero r; to-full-turn = to-full }

  sine-range : Finite (Interval-sin_enclosure P)
  unfolding Interval-sin_enclosure
  sine-range =
      let u = Range.sin-range-unit low high in
      let x = Range.sin-extends low high (≼_refl P.low (number-left r)) r in
      let m = ≼_trans x.below x.above in
      record { low = between-finite minus-finite one-finite u.0 (≼_trans m u.1); high = between-finite minus-finite one-finite (≼_trans u.0 m) u.1 }

  cosine-range : Finite (Interval-cos_enclosure P)
  unfolding Interval-cos_enclosure
  cosine-range =
      let u = Range.cos-range-unit low high in
      let x = Range.cos-extends low high (≼_refl P.low (number-left r)) r in
      let m = ≼_trans x.below x.above in
      record { low = between-finite minus-finite one-finite u.0 (≼_trans m u.1); high = between-finite minus-finite one-finite (≼_trans u.0 m) u.1 }

rises : {X : Interval} (v : Lean) → Stands v X → (Lean-interval v).low ≼ (Lean-interval v).high
rises v p = alike-≼ p.alike.low p.alike.high p.proper.rises

sine-fine : {X : Interval} (v : Lean) → Stands v X → Lean-Angles v → Lean-Finite (Lean-sine v)
sine-fine nought p d = sine-range (Lean-interval nought) d (rises nought p)
sine-fine unit p d = sine-range (Lean-interval unit) d (rises unit p)
sine-fine (number k) p d = unit-finite (sin-unit k (angle-near (point-angle k d)))
sine-fine (factor k) p d = sine-range (Lean-interval (factor k)) d (rises (factor k) p)
sine-fine (span a b) p d = (unit-finite (sin-unit a (angle-near d.low)), unit-finite (sin-unit b (angle-near d.high)))
sine-fine (range P) p d = sine-range P d (rises (range P) p)

cosine-fine : {X : Interval} (v : Lean) → Stands v X → Lean-Angles v → Lean-Finite (Lean-cosine v)
cosine-fine nought p d = cosine-range (Lean-interval nought) d (rises nought p)
cosine-fine unit p d = cosine-range (Lean-interval unit) d (rises unit p)
cosine-fine (number k) p d = unit-finite (cos-unit k (angle-near (point-angle k d)))
cosine-fine (factor k) p d = cosine-range (Lean-interval (factor k)) d (rises (factor k) p)
cosine-fine (span a b) p d = (unit-finite (cos-unit a (angle-near d.low)), unit-finite (cos-unit b (angle-near d.high)))
cosine-fine (range P) p d = cosine-range P d (rises (range P) p)

-- ---- alike
-- P with the values at both ends is what the lean operation has.
to : {X Q R : Interval} → ProperAlike X Q → Interval-Alike Q R → ProperAlike X R
to p a = record { proper = p.proper; alike = interval-trans p.alike a }

at-point : {X : Interval} {x : Float} → X ≡ Interval-point x → T (finite x) → Interval-Alike X (Interval-point x)
at-point {X} {x} e f = subst (λ (Z : Interval). Interval-Alike Z (Interval-point x)) (sym e) (interval-self (Interval-point x) (record { low = f; high = f }))

at-two : {X : Interval} (a b : Float) → X ≡ Interval-new a b → T (finite a) → T (finite b) → Interval-Alike X (Interval-new_ordered a b)
at-two {X} a b e f g =
    subst (λ (Z : Interval). Interval-Alike Z (Interval-new_ordered a b)) (sym (e ∙ new-ordered a b (finite_number a f)))
    (interval-self (Interval-new_ordered a b) (ordered-finite a b f g))

module _ {a b : Float} (q : QuarterAngles a b) where
  two-angles : Angles (record { low = a; high = b })
  two-angles = and_i (le (of_bits binary32 0) a) (le b full_turn_float) q.low.from_zero.holds q.high.to-full-turn.holds

  two-finite : Finite (record { low = a; high = b })
  two-finite = record { low = angle-finite q.low; high = angle-finite q.high }

-- Where an interval is alike to what is finite, it is finite.
back : {X Q : Interval} → Finite Q → Interval-Alike X Q → Finite X
back f a = interval-finite f (interval-sym a)

module _ {X : Interval} where
  sine-alike : (v : Lean) → Stands v X → Lean-Angles v → Lean-Finite (Lean-sine v) → ProperAlike (Interval-sin_enclosure X) (Lean-interval (Lean-sine v))
  sine-alike nought p d f = sin-turn p.proper p.alike d (lean-finite nought tt) f
  sine-alike unit p d f = sin-turn p.proper p.alike d (lean-finite unit tt) f
  sine-alike (factor k) p d f = sin-turn p.proper p.alike d (lean-finite (factor k) p.good) f
  sine-alike (range P) p d f = sin-turn p.proper p.alike d p.good f
  sine-alike (number k) p d f =
      let e = at-point (sin-point (point-angle k d)) f in
      to (sin-turn p.proper p.alike d (lean-finite (number k) p.good) (back (record { low = f; high = f }) e)) e
  sine-alike (span a b) p d f =
      let e = at-two (sin a) (sin b) (sin-new d.low d.high d.rises d.quarter) f.0 f.1 in
      to (sin-turn p.proper (interval-trans p.alike (ordered-alike d.rises)) (two-angles d) (two-finite d)
      (back (ordered-finite (sin a) (sin b) f.0 f.1) e)) e

  cosine-alike : (v : Lean) → Stands v X → Lean-Angles v → Lean-Finite (Lean-cosine v) → ProperAlike (Interval-cos_enclosure X) (Lean-interval (Lean-cosine v))
  cosine-alike nought p d f = cos-turn p.proper p.alike d (lean-finite nought tt) f
  cosine-alike unit p d f = cos-turn p.proper p.alike d (lean-finite unit tt) f
  cosine-alike (factor k) p d f = cos-turn p.proper p.alike d (lean-finite (factor k) p.good) f
  cosine-alike (range P) p d f = cos-turn p.proper p.alike d p.good f
  cosine-alike (number k) p d f =
      let e = at-point (cos-point (point-angle k d)) f in
      to (cos-turn p.proper p.alike d (lean-finite (number k) p.good) (back (record { low = f; high = f }) e)) e
  cosine-alike (span a b) p d f =
      let e = at-two (cos a) (cos b) (cos-new d.low d.high d.rises d.quarter) f.0 f.1 in
      to (cos-turn p.proper (interval-trans p.alike (ordered-alike d.rises)) (two-angles d) (two-finite d)
      (back (ordered-finite (cos a) (cos b) f.0 f.1) e)) e

  -- ---- both
  pub sine-stands : (v : Lean) → Stands v X → Lean-Angles v → Stands (Lean-sine v) (Interval-sin_enclosure X)
  sine-stands v p d = let f = sine-fine v p d in let a = sine-alike v p d f in record { good = f; proper = a.proper; alike = a.alike }

  pub cosine-stands : (v : Lean) → Stands v X → Lean-Angles v → Stands (Lean-cosine v) (Interval-cos_enclosure X)
  cosine-stands v p d = let f = cosine-fine v p d in let a = cosine-alike v p d f in record { good = f; proper = a.proper; alike = a.alike }
