-- What a refusal number of 0 says: nothing was refused before (`first-zero`), the ends are finite (`finite-accepted`, `accepted-finite`), the low
-- end is positive (`positive-accepted`, `accepted-positive`). What follows of an interval that is judged: `judge-encloses`, `judge-narrower`, `refused-positive`.
-- Every operation carries its number: `add-carries` and its like.
use Rattle.std.proofs.Common.{◌≡◌, ℕ, zero, suc, Bool, true, false, cond, not, ◌&&◌, T, pos, refl, inl, inr, eq-zero-or-pos, arith, lt→ltb, Err}
use lib.Ieee.{Float, nan, inf, fin, binary32, of_bits, le}
use lib.Ieee.Fits.{and_l, and_r, and_i}
use lib.Ieee.Bits.{is_true}
use lib.Ieee.Scale.{finite}
use lib.Ieee.Positive.{positive}
use Rattle.refusal.specs.First.{first_refusal}
use Rattle.refusal.specs.declared.Refusal.{Refusal}
use Rattle.refusal.specs.Number.{Refusal-number}
use Rattle.refusal.proofs.First.{first-zero, zero-first, first-stands, first-assoc}
use Rattle.refusal.proofs.Number.{number-nonzero}
use Rattle.refusal.proofs.Outcome.{refused}
use Rattle.float32.proofs.rounding.Order.{of-fraction, zeros_equal, above-positive}
use Rattle.interval.specs.declared.Interval.{Interval}
use Rattle.interval.specs.Judged.{Judged-outcome}
use Rattle.interval.specs.Contains.{Contains, Subset, Finite, Encloses}
use Rattle.interval.specs.Enclosure.{Interval-div_enclosure, Interval-sqrt_enclosure, not_finite, not_positive, Judged-judge}
use Rattle.interval.specs.Enclosure.{Judged-add_enclosure, Judged-sub_enclosure, Judged-mul_enclosure, Judged-div_enclosure}
use Rattle.interval.specs.Enclosure.{Judged-sqrt_enclosure, Judged-sin_enclosure, Judged-cos_enclosure}
use Rattle.interval.specs.Extension.{Narrower, carry, Carries₁, Carries₂}
use Rattle.interval.proofs.Contains.{subset-finite}

-- ---- 5
pub accepted-finite : (X : Interval) → not_finite X ≡ 0 → Finite X
unfolding not_finite
accepted-finite X h =
    let t = test (finite X.low && finite X.high) h in
    record { low = and_l (finite X.low) (finite X.high) t; high = and_r (finite X.low) (finite X.high) t }
  where
    test : (b : Bool) → ◌≡◌ {A = ℕ} (cond b 0 5) 0 → T b
    test true h = tt
    test false h = absurd (omega arith)

pub finite-accepted : (X : Interval) → Finite X → not_finite X ≡ 0
unfolding not_finite
finite-accepted X f = rw (is_true (finite X.low && finite X.high) (and_i (finite X.low) (finite X.high) f.low f.high))

-- ---- 10
abbrev +0 : Float
+0 = of_bits binary32 0

both : (b : Bool) → T b → T (not b) → ⊥
both true t n = n
both false t n = t

above_zero : (x : Float) → T (finite x) → T (not (le x +0)) → T (positive x)
unfolding of_bits
above_zero nan f h = f
above_zero (inf s) f h = f
above_zero (fin true m e) f h = both (le (fin true m e) +0) (of-fraction {x = fin true m e} {y = +0} tt tt (omega arith)).holds h
above_zero (fin false m e) f h = elim (eq-zero-or-pos m) [
  | inl z ↦ absurd (both (le (fin false m e) +0) (rw z (zeros_equal false false e (pos 0)).holds) h)
  | inr l ↦ lt→ltb 0 m l
]

positive-not-le : (x : Float) → T (positive x) → le x +0 ≡ false
unfolding of_bits
positive-not-le x p = go (le x +0) (λ t. above-positive {lo = x} {x = +0} p tt (record { holds = t }))
  where
    go : (b : Bool) → (T b → ⊥) → b ≡ false
    go true k = absurd (k tt)
    go false k = refl

pub accepted-positive : (X : Interval) → T (finite X.low) → not_positive X ≡ 0 → T (positive X.low)
unfolding not_positive
accepted-positive X f h = above_zero X.low f (test (le X.low +0) h)
  where
    test : (b : Bool) → ◌≡◌ {A = ℕ} (cond b 10 0) 0 → T (not b)
    test true h = absurd (omega arith)
    test false h = tt

pub positive-accepted : (X : Interval) → T (positive X.low) → not_positive X ≡ 0
unfolding not_positive
positive-accepted X p = rw (positive-not-le X.low p)

-- ---- what is judged
pub judge-encloses : (m : ℕ) {X : Interval} {x : Float} → Contains X x → (Judged-judge m X).refusal ≡ 0 → Encloses X x
unfolding Judged-judge
judge-encloses m {X} {x} i h = record { finite = accepted-finite X (first-zero m (not_finite X) h).1; contains = i }

pub judge-narrower : (m m' : ℕ) {X X' : Interval} → Subset X X' → m ≡ 0 → (Judged-judge m' X').refusal ≡ 0 → Narrower (Judged-judge m X) (Judged-judge m' X')
unfolding Judged-judge
judge-narrower m m' {X} {X'} s z h =
    let f = accepted-finite X' (first-zero m' (not_finite X') h).1 in
    record { accepted = zero-first m (not_finite X) z (finite-accepted X (subset-finite f s)); refines = record { finite = f; subset = s } }

-- the number that it was judged with was none
pub judge-zero : (m : ℕ) (X : Interval) → (Judged-judge m X).refusal ≡ 0 → m ≡ 0
unfolding Judged-judge
judge-zero m X h = (first-zero m (not_finite X) h).0

-- judged with the number of a test for a positive low end
pub judged-positive : (m : ℕ) {Y : Interval} (Z : Interval) → Finite Y → (Judged-judge (first_refusal m (not_positive Y)) Z).refusal ≡ 0 → T (positive Y.low)
judged-positive m {Y} Z f h = accepted-positive Y f.low (first-zero m (not_positive Y) (judge-zero (first_refusal m (not_positive Y)) Z h)).1

-- refused by the test for a positive low end, as code has it
pub refused-positive : (r : Refusal) (Y Z : Interval) → Refusal-number r ≡ not_positive Y
    → Err (Refusal-number r) ≡ Judged-outcome (Judged-judge (first_refusal 0 (not_positive Y)) Z)
unfolding Judged-judge
refused-positive r Y Z e = rw (← e, ← first-stands (Refusal-number r) (not_finite Z) (number-nonzero r)) (refused Z r)

-- ---- the number is carried along
judge-carries : (m n : ℕ) (X : Interval) → Judged-judge (first_refusal m n) X ≡ carry m (Judged-judge n X)
unfolding Judged-judge
judge-carries m n X = rw (first-assoc m n (not_finite X))

pub add-carries : Carries₂ Judged-add_enclosure
unfolding Judged-add_enclosure Judged-judge
add-carries = record { carries = λ m X Y. refl }

pub sub-carries : Carries₂ Judged-sub_enclosure
unfolding Judged-sub_enclosure Judged-judge
sub-carries = record { carries = λ m X Y. refl }

pub mul-carries : Carries₂ Judged-mul_enclosure
unfolding Judged-mul_enclosure Judged-judge
mul-carries = record { carries = λ m X Y. refl }

pub div-carries : Carries₂ Judged-div_enclosure
unfolding Judged-div_enclosure
div-carries = record { carries = λ m X Y. judge-carries m (not_positive Y) (Interval-div_enclosure X Y) }

pub sqrt-carries : Carries₁ Judged-sqrt_enclosure
unfolding Judged-sqrt_enclosure
sqrt-carries = record { carries = λ m X. judge-carries m (not_positive X) (Interval-sqrt_enclosure X) }

pub sin-carries : Carries₁ Judged-sin_enclosure
unfolding Judged-sin_enclosure Judged-judge
sin-carries = record { carries = λ m X. refl }

pub cos-carries : Carries₁ Judged-cos_enclosure
unfolding Judged-cos_enclosure Judged-judge
cos-carries = record { carries = λ m X. refl }
