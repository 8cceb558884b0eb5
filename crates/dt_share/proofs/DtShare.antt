-- The share of dt that a window has of a move: it is a part of the unit interval with binary32 ends (`share_part`),
-- and contains dt at every time of the window between the move's start and its end (`share-contains`). Both rest on
-- dt rising with the time, ticks of either infinity and differences that overflow included (`dt-mono`).
use mathlib.Core.Path.{◌≡◌, refl}
use mathlib.Core.Bool.{Bool, true, false}
use lib.Dec.{T}
use lib.Ieee.{Float, nan, inf, fin, binary32, fits, lt, le, eq, neg, add, sub, div, is_nan}
use lib.Ieee.Fits.{div-fits}
use lib.Ieee.Scale.{finite}
use lib.Ieee.Positive.{positive}
use Rattle.float32.specs.rounding.Order.{◌≼◌, Number}
use Rattle.float32.proofs.rounding.Order.{≼_refl, number-left, number-right, finite_number, below-infinity}
use Rattle.float32.proofs.rounding.Arithmetic.{sub-mono, div_mono}
use Rattle.float32.specs.Operators.{◌⊖◌, ◌⊘◌}
use Rattle.interval.specs.Contains.{Contains}
use Rattle.unit_interval.specs.Unit.{dt}
use Rattle.unit_interval.proofs.DtUnit.{dt-unit, sub-positive}
use Rattle.dt_share.specs.Share.{share}
use Rattle.dt_share.proofs.Limits.{limited-unit, limited-mono, limited-low, limited-high, limited-fits}
use Rattle.dt_share.specs.means.Part.{UnitPart}

-- ---- the infinities
least-all : (x : Float) → Number x → inf true ≼ x
unfolding le lt eq is_nan
least-all nan n = absurd n
least-all (inf true) n = record { holds = tt }
least-all (inf false) n = record { holds = tt }
least-all (fin s m e) n = record { holds = tt }

inf-sub : (t : Bool) (z : Float) → T (finite z) → inf t ⊖ z ≡ inf t
unfolding sub add neg
inf-sub t nan f = absurd f
inf-sub t (inf s) f = absurd f
inf-sub t (fin s m e) f = refl

inf-div : (t : Bool) (z : Float) → T (positive z) → inf t ⊘ z ≡ inf t
unfolding div
inf-div t nan f = absurd f
inf-div t (inf s) f = absurd f
inf-div t (fin true m e) f = absurd f
inf-div true (fin false m e) f = refl
inf-div false (fin false m e) f = refl

-- What rises over the finite numbers and keeps the infinities rises over all numbers.
module _ (g : Float → Float) (infinite : (t : Bool) → g (inf t) ≡ inf t) (rises : (x y : Float) → T (finite x) → T (finite y) → x ≼ y → g x ≼ g y) where
  number-kept : (x : Float) → Number x → Number (g x)
  unfolding is_nan
  number-kept nan n = absurd n
  number-kept (inf t) n = rw (infinite t) n
  number-kept (fin s m e) n = number-left (rises (fin s m e) (fin s m e) tt tt (≼_refl (fin s m e) n))

  extended-mono : (x y : Float) → x ≼ y → g x ≼ g y
  unfolding le lt eq
  extended-mono nan y h = absurd h.holds
  extended-mono (inf true) y h = rw (infinite true) (least-all (g y) (number-kept y (number-right h)))
  extended-mono (inf false) nan h = absurd h.holds
  extended-mono (inf false) (inf true) h = absurd h.holds
  extended-mono (inf false) (inf false) h = rw (infinite false) h
  extended-mono (inf false) (fin t n d) h = absurd h.holds
  extended-mono (fin s m e) nan h = absurd h.holds
  extended-mono (fin s m e) (inf true) h = absurd h.holds
  extended-mono (fin s m e) (inf false) h = rw (infinite false) (below-infinity (g (fin s m e)) (number-kept (fin s m e) (number-left h)))
  extended-mono (fin s m e) (fin t n d) h = rises (fin s m e) (fin t n d) tt tt h

-- ---- the window of a move whose times rise
module _ (start end : Float) (s : T (finite start)) (S : T (fits binary32 start)) (e : T (finite end)) (E : T (fits binary32 end))
    (d : T (finite (end ⊖ start))) (rise : T (lt start end)) where
  since-mono : {x y : Float} → x ≼ y → x ⊖ start ≼ y ⊖ start
  since-mono {x} {y} h =
      extended-mono (λ z. z ⊖ start) (λ t. inf-sub t start s)
      (λ a b f g k. sub-mono binary32 {x = a} {x' = b} f g s s k (≼_refl start (finite_number start s))) x y h

  pub dt-mono : {x y : Float} → x ≼ y → dt start end x ≼ dt start end y
  unfolding dt
  dt-mono {x} {y} h =
      let p = sub-positive start end s S e E rise d in
      extended-mono (λ z. z ⊘ (end ⊖ start)) (λ t. inf-div t (end ⊖ start) p)
      (λ a b f g k. div_mono binary32 {x = a} {x' = b} (end ⊖ start) f g p k) (x ⊖ start) (y ⊖ start) (since-mono h)

  module _ (earlier later : Float) (w : earlier ≼ later) where
    pub share_part : UnitPart (share start end earlier later)
    unfolding share dt
    share_part =
        let k = dt-mono w in
        let a = limited-unit (dt start end earlier) (number-left k) in
        let b = limited-unit (dt start end later) (number-right k) in
        record {
          subset = record { low = a.low; proper = limited-mono k; high = b.high };
          low_fits = limited-fits (dt start end earlier) (div-fits binary32 (earlier ⊖ start) (end ⊖ start));
          high_fits = limited-fits (dt start end later) (div-fits binary32 (later ⊖ start) (end ⊖ start));
        }

    pub share-contains : (time : Float) → earlier ≼ time → time ≼ later → T (lt start time)
        → T (lt time end) → Contains (share start end earlier later) (dt start end time)
    unfolding share
    share-contains time h k a b =
        let u = dt-unit start end time s S e E d a b in
        record { low = limited-low (dt-mono h) u.low; high = limited-high (dt-mono k) u.high }
