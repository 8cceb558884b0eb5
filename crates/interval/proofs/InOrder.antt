-- Intervals whose ends are in order: `new-ordered`, that sorting leaves such ends as they are, and `mul-ordered`, that a number
-- times an interval has the products of the ends where these are in order. Both rest on `min-ordered` and `max-ordered`.
use Rattle.std.proofs.Common.{◌≡◌, ℕ, Bool, true, false, sym, refl, true≢false, arith, ltb-true, le-ltb}
use lib.Ieee.{Float, nan, inf, fin, is_nan, lt, below, up, down}
use Rattle.float32.specs.MinMax.{min_num, max_num}
use Rattle.float32.specs.Operators.{◌⊗◌}
use Rattle.interval.specs.declared.Interval.{Interval}
use Rattle.interval.specs.Interval.{Interval-new, Interval-point, Interval-hull, Interval-of_four, Interval-mul}
use Rattle.interval.proofs.Points.{min-same, max-same}

-- ---- what is below another number is a number, and the other is not below it
below-asym : (s t : Bool) (a b : ℕ) → below s a t b ≡ true → below t b s a ≡ false
below-asym false false a b h = le-ltb b a (omega (arith, ltb-true a b h))
below-asym false true a b h = absurd (true≢false (sym h))
below-asym true false a b h = refl
below-asym true true a b h = le-ltb a b (omega (arith, ltb-true b a h))

pub lt-asym : (x y : Float) → lt x y ≡ true → lt y x ≡ false
unfolding lt
lt-asym nan y h = absurd (true≢false (sym h))
lt-asym (inf s) nan h = absurd (true≢false (sym h))
lt-asym (inf true) (inf true) h = refl
lt-asym (inf true) (inf false) h = refl
lt-asym (inf false) (inf t) h = absurd (true≢false (sym h))
lt-asym (inf true) (fin t n d) h = refl
lt-asym (inf false) (fin t n d) h = absurd (true≢false (sym h))
lt-asym (fin s m e) nan h = absurd (true≢false (sym h))
lt-asym (fin s m e) (inf true) h = absurd (true≢false (sym h))
lt-asym (fin s m e) (inf false) h = refl
lt-asym (fin s m e) (fin t n d) h = below-asym s t _ _ h

lt-number : (x y : Float) → lt x y ≡ true → is_nan x ≡ false
unfolding lt is_nan
lt-number nan y h = absurd (true≢false (sym h))
lt-number (inf s) y h = refl
lt-number (fin s m e) y h = refl

-- ---- the least and the greatest of two in order
module _ (x y : Float) (h : lt x y ≡ true) where
  min-ordered : min_num x y ≡ x
  unfolding min_num
  min-ordered = rw (lt-number x y h, lt-asym x y h)

  max-ordered : max_num x y ≡ y
  unfolding max_num
  max-ordered = rw (lt-number x y h, h)

  pub new-ordered : Interval-new x y ≡ record { low = x; high = y }
  unfolding Interval-new
  new-ordered = rw (min-ordered, max-ordered)

-- ---- a number times an interval
pub mul-ordered : (k : Float) (i : Interval) → lt (k ⊗ i.low) (k ⊗ i.high) ≡ true
    → Interval-mul (Interval-point k) i ≡ record { low = k ⊗ i.low; high = k ⊗ i.high }
unfolding Interval-mul Interval-of_four Interval-hull
mul-ordered k i h = rw (new-same (k ⊗ i.low), new-same (k ⊗ i.high), min-ordered _ _ h, max-ordered _ _ h, new-ordered _ _ h)
  where
    new-same : (x : Float) → Interval-new x x ≡ record { low = x; high = x }
    new-same x = unfold Interval-new in rw (min-same x, max-same x)
