-- Each operation of the cover is an interval extension of the rounded operation: `add-extends`, `sub-extends`, `mul-extends`, `div-extends`.
-- The interval contains each value (`add-contains` and its like), since rounding to nearest keeps the order (`rounding`);
-- that its ends are finite is what was judged. Product and quotient rest on one law, that of the four corners.
use Rattle.std.proofs.Common.{◌≡◌, ℕ, T, inl, inr}
use lib.Ieee.{Float, binary32}
use lib.Ieee.Scale.{finite}
use lib.Ieee.Positive.{positive}
use Rattle.refusal.specs.First.{first_refusal}
use Rattle.float32.specs.rounding.Order.{◌≼◌, Number}
use Rattle.float32.proofs.rounding.Order.{≼_refl, ≼_trans, finite_number, number-left, above-positive}
use Rattle.float32.proofs.rounding.Arithmetic.{add-mono, sub-mono, mul-between-left, div_mono}
use Rattle.square_root.specs.SquareRoot.{sqrt}
use Rattle.square_root.proofs.Monotone.{sqrt-mono, positive-above-zero}
use Rattle.float32.proofs.rounding.Corners.{Bounds, mul-corners, div-corners}
use Rattle.float32.specs.Operators.{◌⊕◌, ◌⊖◌, ◌⊗◌, ◌⊘◌}
use Rattle.interval.specs.declared.Interval.{Interval}
use Rattle.interval.specs.Contains.{Contains, Finite, Encloses}
use Rattle.interval.specs.Interval.{Interval-new, Interval-of_four}
use Rattle.interval.specs.Enclosure.{Interval-add_enclosure, Interval-sub_enclosure, Interval-mul_enclosure}
use Rattle.interval.specs.Enclosure.{Interval-div_enclosure, Interval-sqrt_enclosure, Judged-judge, Judged-add_enclosure}
use Rattle.interval.specs.Enclosure.{Judged-sub_enclosure, Judged-mul_enclosure, Judged-div_enclosure, Judged-sqrt_enclosure}
use Rattle.interval.specs.Extension.{Extends₁, Extends₂, Everywhere}
use Rattle.interval.proofs.Contains.{contains-finite, new-left, new-right, hull-left, hull-right}
use Rattle.interval.proofs.Refusal.{judge-encloses, judged-positive}

-- ---- sums and differences
module _ {X Y : Interval} {x y : Float} (f : Finite X) (g : Finite Y) (i : Contains X x) (j : Contains Y y) where
  pub add-contains : Contains (Interval-add_enclosure X Y) (x ⊕ y)
  unfolding Interval-add_enclosure
  add-contains =
      let a = contains-finite f i in
      let b = contains-finite g j in
      record { low = add-mono binary32 f.low a g.low b i.low j.low; high = add-mono binary32 a f.high b g.high i.high j.high }

  pub sub-contains : Contains (Interval-sub_enclosure X Y) (x ⊖ y)
  unfolding Interval-sub_enclosure
  sub-contains =
      let a = contains-finite f i in
      let b = contains-finite g j in
      record { low = sub-mono binary32 f.low a g.high b i.low j.high; high = sub-mono binary32 a f.high b g.low i.high j.low }

-- ---- the four corners
module _ (a b c d : Float) where
  first-of-four : Number a → Contains (Interval-of_four a b c d) a
  unfolding Interval-of_four
  first-of-four n = hull-left (Interval-new c d) (new-left a b n)

  second-of-four : Number b → Contains (Interval-of_four a b c d) b
  unfolding Interval-of_four
  second-of-four n = hull-left (Interval-new c d) (new-right a b n)

  third-of-four : Number c → Contains (Interval-of_four a b c d) c
  unfolding Interval-of_four
  third-of-four n = hull-right (Interval-new a b) (new-left c d n)

  fourth-of-four : Number d → Contains (Interval-of_four a b c d) d
  unfolding Interval-of_four
  fourth-of-four n = hull-right (Interval-new a b) (new-right c d n)

bounds : {X : Interval} {x : Float} → Contains X x → Bounds X.low X.high x
bounds i = record { below = i.low; above = i.high }

contains : {X : Interval} {x : Float} → Bounds X.low X.high x → Contains X x
contains b = record { low = b.below; high = b.above }

pub mul-number : (x y : Float) → T (finite x) → T (finite y) → Number (x ⊗ y)
mul-number x y f g = let r = ≼_refl x (finite_number x f) in elim (mul-between-left binary32 y f f f g r r) [
  | inl b ↦ number-left b.0
  | inr b ↦ number-left b.0
]

pub div-number : (x y : Float) → T (finite x) → T (positive y) → Number (x ⊘ y)
div-number x y f p = number-left (div_mono binary32 y f f p (≼_refl x (finite_number x f)))

module _ {X Y : Interval} {x y : Float} (f : Finite X) (g : Finite Y) (i : Contains X x) (j : Contains Y y) where
  pub mul-contains : Contains (Interval-mul_enclosure X Y) (x ⊗ y)
  unfolding Interval-mul_enclosure
  mul-contains =
      let p = X.low ⊗ Y.low in
      let q = X.high ⊗ Y.low in
      let r = X.low ⊗ Y.high in
      let s = X.high ⊗ Y.high in
      contains (mul-corners binary32 f.low f.high i.low i.high j.low j.high g.low g.high
      (bounds (first-of-four p q r s (mul-number X.low Y.low f.low g.low)))
      (bounds (third-of-four p q r s (mul-number X.low Y.high f.low g.high)))
      (bounds (second-of-four p q r s (mul-number X.high Y.low f.high g.low)))
      (bounds (fourth-of-four p q r s (mul-number X.high Y.high f.high g.high))))

  pub div-contains : T (positive Y.low) → Contains (Interval-div_enclosure X Y) (x ⊘ y)
  unfolding Interval-div_enclosure
  div-contains P =
      let p = X.low ⊘ Y.low in
      let q = X.high ⊘ Y.low in
      let r = X.low ⊘ Y.high in
      let s = X.high ⊘ Y.high in
      let P' = above-positive P g.high (≼_trans j.low j.high) in
      contains (div-corners binary32 f.low f.high i.low i.high j.low j.high P g.high
      (bounds (first-of-four p q r s (div-number X.low Y.low f.low P)))
      (bounds (third-of-four p q r s (div-number X.low Y.high f.low P')))
      (bounds (second-of-four p q r s (div-number X.high Y.low f.high P)))
      (bounds (fourth-of-four p q r s (div-number X.high Y.high f.high P'))))

-- ---- roots
pub sqrt-contains : {X : Interval} {x : Float} → T (positive X.low) → Contains X x → Contains (Interval-sqrt_enclosure X) (sqrt binary32 x)
unfolding Interval-sqrt_enclosure
sqrt-contains {X} {x} P i =
    let z = positive-above-zero X.low P in
    record { low = sqrt-mono binary32 z i.low; high = sqrt-mono binary32 (≼_trans z i.low) i.high }

-- ---- as they are judged
pub add-extends : Extends₂ ◌⊕◌ Judged-add_enclosure
unfolding Judged-add_enclosure Judged-judge
add-extends = record { extends = λ m i j h. judge-encloses m (add-contains i.finite j.finite i.contains j.contains) h }

pub sub-extends : Extends₂ ◌⊖◌ Judged-sub_enclosure
unfolding Judged-sub_enclosure Judged-judge
sub-extends = record { extends = λ m i j h. judge-encloses m (sub-contains i.finite j.finite i.contains j.contains) h }

pub mul-extends : Extends₂ ◌⊗◌ Judged-mul_enclosure
unfolding Judged-mul_enclosure Judged-judge
mul-extends = record { extends = λ m i j h. judge-encloses m (mul-contains i.finite j.finite i.contains j.contains) h }

pub div-extends : Extends₂ ◌⊘◌ Judged-div_enclosure
unfolding Judged-div_enclosure Judged-judge
div-extends = record {
  extends = λ m i j h.
      let P = judged-positive m _ j.finite h in
      judge-encloses (first_refusal m _) (div-contains i.finite j.finite i.contains j.contains P) h;
}

pub sqrt-extends : Extends₁ Everywhere (sqrt binary32) Judged-sqrt_enclosure
unfolding Judged-sqrt_enclosure Judged-judge
sqrt-extends = record { extends = λ m d i h. judge-encloses (first_refusal m _) (sqrt-contains (judged-positive m _ i.finite h) i.contains) h }

-- ---- what is rooted, and what is divided by, was positive
pub divisor-positive : (m : ℕ) {X Y : Interval} {x y : Float} → Encloses X x → Encloses Y y → (Judged-div_enclosure m X Y).refusal ≡ 0 → T (positive y)
unfolding Judged-div_enclosure
divisor-positive m {X} {Y} i j h =
    above-positive (judged-positive m (Interval-div_enclosure X Y) j.finite h) (contains-finite j.finite j.contains) j.contains.low

pub rooted-positive : (m : ℕ) {X : Interval} {x : Float} → Encloses X x → (Judged-sqrt_enclosure m X).refusal ≡ 0 → T (positive x)
unfolding Judged-sqrt_enclosure
rooted-positive m {X} i h =
    above-positive (judged-positive m (Interval-sqrt_enclosure X) i.finite h) (contains-finite i.finite i.contains) i.contains.low
