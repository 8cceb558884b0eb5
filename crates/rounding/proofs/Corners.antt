-- Four-corner enclosure: what bounds a product at the four corners of a box of finite floats bounds it at every point of the box, and likewise a
-- quotient whose divisors are positive: `mul-corners`, `div-corners`. Both are one law, `hull-of-four`, over Arithmetic.antt's laws of betweenness.
use mathlib.Core.Logic.{inl, inr}
use lib.Dec.{T}
use lib.Ieee.{Float, Format, mul, div}
use lib.Ieee.Scale.{finite}
use lib.Ieee.Positive.{positive, positive-finite}
use Rattle.rounding.specs.Order.{◌≼◌, Between}
use Rattle.rounding.proofs.Order.{≼_trans, between-finite, above-positive}
use Rattle.rounding.proofs.Arithmetic.{mul-between-left, mul-between-right, div-between-left, div-between-right}

-- l ≼ v ≼ h
pub record Bounds (l h v : Float) : Type 0 where
  pub below : l ≼ v
  pub above : v ≼ h

-- All of l ≼ u, u ≼ h and l ≼ w, w ≼ h bound what lies between u and w.
bounds-between : {l h u v w : Float} → Between u v w → Bounds l h u → Bounds l h w → Bounds l h v
bounds-between b p q = elim b [
  | inl r ↦ record { below = ≼_trans p.below r.0; above = ≼_trans r.1 q.above }
  | inr r ↦ record { below = ≼_trans q.below r.0; above = ≼_trans r.1 p.above }
]

-- u between the first two corners, w between the last two, v between u and w.
pub hull-of-four : {l h c₀₀ c₀₁ c₁₀ c₁₁ u v w : Float} → Between c₀₀ u c₀₁ → Between c₁₀ w c₁₁ → Between u v w
    → Bounds l h c₀₀ → Bounds l h c₀₁ → Bounds l h c₁₀ → Bounds l h c₁₁ → Bounds l h v
hull-of-four a b c p q r s = bounds-between c (bounds-between a p q) (bounds-between b r s)

-- x from a to b, y from c to d.
module _ (f : Format) {a x b c y d l h : Float} (A : T (finite a)) (B : T (finite b)) (i : a ≼ x) (j : x ≼ b) (k : c ≼ y) (m : y ≼ d) where
  pub mul-corners : T (finite c) → T (finite d) → Bounds l h (mul f a c) → Bounds l h (mul f a d)
      → Bounds l h (mul f b c) → Bounds l h (mul f b d) → Bounds l h (mul f x y)
  mul-corners C D =
      let X = between-finite A B i j in
      let Y = between-finite C D k m in
      hull-of-four (mul-between-right f a A C Y D k m) (mul-between-right f b B C Y D k m) (mul-between-left f y A X B Y i j)

  pub div-corners : T (positive c) → T (finite d) → Bounds l h (div f a c) → Bounds l h (div f a d)
      → Bounds l h (div f b c) → Bounds l h (div f b d) → Bounds l h (div f x y)
  div-corners C D =
      let X = between-finite A B i j in
      let Y = above-positive C (between-finite (positive-finite c C) D k m) k in
      let D' = above-positive Y D m in
      hull-of-four (div-between-right f a A C Y D' k m) (div-between-right f b B C Y D' k m) (div-between-left f y A X B Y i j)
