-- Sine and cosine of alike intervals of angles are alike, and proper: `sin-turn`, `cos-turn`, by isotonicity used both ways.
use mathlib.Core.Path.{refl}
use mathlib.Core.Bool.{Bool, true, false, cond, ◌||◌}
use Prim.Native.Nat.{suc, ◌*◌, ◌^◌}
use lib.IntN.{ℤ, pos, negsuc}
use lib.Dec.{T}
use lib.Ieee.{Float, binary32, of_bits, le, fits, neg}
use lib.Ieee.Fits.{and_i, and_l, and_r, cond-fits, round-fits, nan-fits, neg-fits}
use lib.Ieee.Bits.{of_bits-fits}
use Rattle.own_rounding.specs.rounding.Order.{◌≼◌}
use Rattle.own_rounding.proofs.rounding.Order.{≼_trans}
use Rattle.own_rounding.specs.float32.MinMax.{min_num, max_num}
use Rattle.own_rounding.specs.float32.Operators.{one}
use Rattle.own_rounding.proofs.float32.MinMax.{min-picks, max-picks}
use Rattle.own_rounding.specs.float_bits.Decode.{negative}
use Rattle.interval_unjudged.specs.sine_table.Table.{quarter_turn}
use Rattle.interval_unjudged.specs.trig.Units.{angle_units, sin_units, cos_units, nearest_float, with_sign}
use Rattle.interval_unjudged.specs.trig.SinCos.{sin, cos, near, far_sin, far_cos}
use Rattle.interval_unjudged.specs.trig.Range.{full_turn_float, lies, sin_low, sin_high, cos_low, cos_high}
use Rattle.interval_unjudged.specs.interval.declared.Interval.{Interval}
use Rattle.interval_unjudged.specs.interval.Contains.{Finite}
use Rattle.interval_unjudged.specs.interval.Enclosure.{Interval-sin_enclosure, Interval-cos_enclosure, Judged-judge, Judged-sin_enclosure, Judged-cos_enclosure}
use Rattle.interval_unjudged.specs.interval.Extension.{Isotone₁, Angles}
use Rattle.interval_unjudged.proofs.interval.Refusal.{finite-accepted}
use Rattle.interval_unjudged.proofs.interval.Angles.{sin-isotone, cos-isotone}
use Rattle.own_rounding.specs.means.Alike.{Alike}
use Rattle.alike.specs.means.Alike.{Interval-Alike, Interval-Values, Interval-Proper}
use Rattle.alike.proofs.Intervals.{interval-sym, interval-finite}
use Rattle.alike.proofs.Refines.{alike-refines, alike-widens, refines-alike}

-- ---- values of binary32
nearest-fits : (z : ℤ) → T (fits binary32 (nearest_float z))
unfolding nearest_float
nearest-fits (pos n) = round-fits binary32 false n (2 ^ 30)
nearest-fits (negsuc n) = round-fits binary32 true (suc n) (2 ^ 30)

pub sin-fits : (x : Float) → T (fits binary32 (sin x))
unfolding sin
sin-fits x = cond-fits binary32 (near x) (nearest_float (with_sign (negative x) (sin_units (angle_units x)))) far_sin (nearest-fits _) (nan-fits binary32)

cos-fits : (x : Float) → T (fits binary32 (cos x))
unfolding cos
cos-fits x = cond-fits binary32 (near x) (nearest_float (cos_units (angle_units x))) far_cos (nearest-fits (cos_units (angle_units x))) (nan-fits binary32)

abbrev Fits : Float → Type 0
Fits x = T (fits binary32 x)

one-fits : Fits one
one-fits = of_bits-fits binary32 0x3f800000

range-values : (s t : Bool) (p q : Float) → Fits p → Fits q → Interval-Values (record { low = cond s (neg one) (min_num p q); high = cond t one (max_num p q) })
range-values s t p q f g = record {
  low = cond-fits binary32 s (neg one) (min_num p q) (neg-fits binary32 one one-fits) (min-picks Fits p q f g);
  high = cond-fits binary32 t one (max_num p q) one-fits (max-picks Fits p q f g);
}

sin-values : (X : Interval) → Interval-Values (Interval-sin_enclosure X)
unfolding Interval-sin_enclosure sin_low sin_high
sin-values X = range-values (lies (3 * quarter_turn) (angle_units X.low) (angle_units X.high))
    (lies quarter_turn (angle_units X.low) (angle_units X.high))
    (sin X.low) (sin X.high) (sin-fits X.low) (sin-fits X.high)

cos-values : (X : Interval) → Interval-Values (Interval-cos_enclosure X)
unfolding Interval-cos_enclosure cos_low cos_high
cos-values X = range-values (lies (2 * quarter_turn) (angle_units X.low) (angle_units X.high))
    (lies 0 (angle_units X.low) (angle_units X.high) || lies (4 * quarter_turn) (angle_units X.low) (angle_units X.high))
    (cos X.low) (cos X.high) (cos-fits X.low) (cos-fits X.high)

-- ---- both ways
-- Alike to Q, and proper.
pub record ProperAlike (X Q : Interval) : Type 0 where
  pub proper : Interval-Proper X
  pub alike : Interval-Alike X Q

abbrev +0 : Float
+0 = of_bits binary32 0

module _ (F : Interval → Interval) (iso : Isotone₁ Angles (λ m X. Judged-judge m (F X))) (values : (X : Interval) → Interval-Values (F X))
    {X P : Interval} (p : Interval-Proper X) (a : Interval-Alike X P) (d : Angles P) (f : Finite P) (g : Finite (F P)) where
  angles : Angles X
  angles =
      and_i (le +0 X.low) (le X.high full_turn_float)
      (≼_trans {x = +0} (record { holds = and_l (le +0 P.low) (le P.high full_turn_float) d }) a.low.from).holds
      (≼_trans a.high.to (record { holds = and_r (le +0 P.low) (le P.high full_turn_float) d })).holds

  turn : ProperAlike (F X) (F P)
  unfolding Judged-judge
  turn =
      let n = iso.isotone 0 0 d (alike-refines f p.rises a) refl (rw (finite-accepted (F P) g)) in
      let k = iso.isotone 0 0 angles (alike-widens p.finite p.rises a) refl n.accepted in
      let e = refines-alike n.refines k.refines in
      record { proper = record { finite = interval-finite g (interval-sym e); values = values X; rises = n.refines.subset.proper }; alike = e }

module _ {X P : Interval} (p : Interval-Proper X) (a : Interval-Alike X P) (d : Angles P) (f : Finite P) where
  pub sin-turn : Finite (Interval-sin_enclosure P) → ProperAlike (Interval-sin_enclosure X) (Interval-sin_enclosure P)
  unfolding Judged-sin_enclosure
  sin-turn g = turn Interval-sin_enclosure sin-isotone sin-values p a d f g

  pub cos-turn : Finite (Interval-cos_enclosure P) → ProperAlike (Interval-cos_enclosure X) (Interval-cos_enclosure P)
  unfolding Judged-cos_enclosure
  cos-turn g = turn Interval-cos_enclosure cos-isotone cos-values p a d f g
