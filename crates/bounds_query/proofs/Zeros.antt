-- An answer with its zeros +0 has the number that it had (`zeros-refusal`), and is a box where it was one (`zeros-accepted`).
use Prim.Native.Nat.{ℕ}
use mathlib.Core.Path.{◌≡◌, refl}
use Rattle.bounds3.specs.declared.Bounds3f.{Bounds3f}
use Rattle.transform.specs.declared.BoundsAnswer.{BoundsAnswer}
use Rattle.transform.specs.declared.BoundsAnswer.TheVariants.{Bounds, Refused}
use Rattle.transform.specs.Answer.{BoundsAnswer-refusal}
use Rattle.bounds_query.specs.Zeros.{Bounds3f-positive_zeros, BoundsAnswer-positive_zeros}
use Rattle.bounds_query.proofs.Union.{refused-bounds, bounds-same}

pub zeros-refusal : (r : BoundsAnswer) → BoundsAnswer-refusal (BoundsAnswer-positive_zeros r) ≡ BoundsAnswer-refusal r
unfolding BoundsAnswer-positive_zeros
zeros-refusal (Bounds b) = refl
zeros-refusal (Refused n) = refl

pub record WithZeros (r : BoundsAnswer) (box : Bounds3f) : Type 0 where
  pub before : Bounds3f
  pub worked : r ≡ Bounds before
  pub zeros : Bounds3f-positive_zeros before ≡ box

pub zeros-accepted : (r : BoundsAnswer) (box : Bounds3f) → BoundsAnswer-positive_zeros r ≡ Bounds box → WithZeros r box
unfolding BoundsAnswer-positive_zeros
zeros-accepted (Bounds b) box e = record { before = b; worked = refl; zeros = bounds-same (Bounds3f-positive_zeros b) box e }
zeros-accepted (Refused n) box e = absurd (refused-bounds n box e)

pub zeros-box : {r : BoundsAnswer} {b : Bounds3f} → r ≡ Bounds b → BoundsAnswer-positive_zeros r ≡ Bounds (Bounds3f-positive_zeros b)
unfolding BoundsAnswer-positive_zeros
zeros-box e = rw e
