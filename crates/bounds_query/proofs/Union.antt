-- A union is accepted only where both answers are, and its box is then the union of theirs: `union-accepted`. A refusal is no box: `refused-bounds`.
-- Unions of the same answers are the same: `union-same`. What holds of 0 and of the numbers of two answers holds of their union's: `union-keeps`.
use Prim.Native.Nat.{ℕ}
use mathlib.Core.Path.{◌≡◌, refl, sym, ap, subst}
use mathlib.Core.Bool.{Bool, true, false}
use lib.Dec.{T}
use Rattle.bounds3.specs.declared.Bounds3f.{Bounds3f}
use Rattle.bounds3.specs.Bounds3f.{Bounds3f-union_bounds}
use Rattle.bounds3.proofs.Union.{union-isotone}
use Rattle.transform.specs.declared.BoundsAnswer.{BoundsAnswer}
use Rattle.transform.specs.declared.BoundsAnswer.TheVariants.{Bounds, Refused}
use Rattle.transform.specs.Answer.{BoundsAnswer-bounds, BoundsAnswer-refusal}
use Rattle.bounds_query.specs.Query.{BoundsAnswer-union_bounds}
use Rattle.bounds_query.specs.Same.{BoundsAnswer-Same, same-box, same-refusal}

abbrev is_bounds : BoundsAnswer → Bool
is_bounds (Bounds b) = true
is_bounds (Refused n) = false

pub refused-bounds : (n : ℕ) (b : Bounds3f) → Refused n ≡ Bounds b → ⊥
refused-bounds n b e = subst T (sym (ap is_bounds e)) tt

pub bounds-same : (a b : Bounds3f) → Bounds a ≡ Bounds b → a ≡ b
bounds-same a b e = ap BoundsAnswer-bounds e

pub record Joined (r s : BoundsAnswer) (box : Bounds3f) : Type 0 where
  pub left : Bounds3f
  pub right : Bounds3f
  pub left-accepted : r ≡ Bounds left
  pub right-accepted : s ≡ Bounds right
  pub union : Bounds3f-union_bounds left right ≡ box

pub union-accepted : (r s : BoundsAnswer) (box : Bounds3f) → BoundsAnswer-union_bounds r s ≡ Bounds box → Joined r s box
unfolding BoundsAnswer-union_bounds
union-accepted (Bounds a) (Bounds b) box e =
    record { left = a; right = b; left-accepted = refl; right-accepted = refl; union = bounds-same (Bounds3f-union_bounds a b) box e }
union-accepted (Bounds a) (Refused n) box e = absurd (refused-bounds n box e)
union-accepted (Refused n) s box e = absurd (refused-bounds n box e)

pub union-same : {r r' s s' : BoundsAnswer} → BoundsAnswer-Same r r' → BoundsAnswer-Same s s'
    → BoundsAnswer-Same (BoundsAnswer-union_bounds r s) (BoundsAnswer-union_bounds r' s')
unfolding BoundsAnswer-union_bounds
union-same (same-box a b) (same-box c d) = same-box (union-isotone a c) (union-isotone b d)
union-same (same-box a b) (same-refusal n) = same-refusal n
union-same (same-refusal n) h = same-refusal n

pub union-keeps : (P : ℕ → Type 0) → P 0 → (r s : BoundsAnswer) → P (BoundsAnswer-refusal r) → P (BoundsAnswer-refusal s)
    → P (BoundsAnswer-refusal (BoundsAnswer-union_bounds r s))
unfolding BoundsAnswer-union_bounds
union-keeps P none (Bounds a) (Bounds b) h k = none
union-keeps P none (Bounds a) (Refused n) h k = k
union-keeps P none (Refused n) s h k = h
