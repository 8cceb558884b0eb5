-- Moved points and boxes, or the number of a refusal; of each document 01's number and values: 0 where nothing is refused, and every value +0 where something is.
-- `OneOf`: which numbers an answer can have. `Judged`: what is promised of an answer for which only 5 can be met. Definitions only.
use Rattle.std.specs.Prelude.{◌≡◌, ◌⊎◌, List, [], ◌∷◌, ℕ, T, Result, Ok, Err}
use Rattle.bounds3.specs.declared.Point3f.{Point3f}
use Rattle.bounds3.specs.declared.Bounds3f.{Bounds3f}
use Rattle.bounds3.specs.Bounds3f.{Bounds3f-from_point}
use Rattle.bounds3.specs.Finite.{Point3f-is_finite, Bounds3f-is_finite}
use Rattle.matrix4x4.specs.Rows.{positive_zero}
use Rattle.transform.specs.declared.BoundsAnswer.{BoundsAnswer}
use Rattle.transform.specs.declared.BoundsAnswer.TheVariants as bounds

-- a moved point, or the number of a refusal
abbrev pub PointAnswer : Type 0
PointAnswer = Result Point3f ℕ

abbrev pub origin : Point3f
origin = record { x = positive_zero; y = positive_zero; z = positive_zero }

abbrev pub PointAnswer-refusal : PointAnswer → ℕ
PointAnswer-refusal (Ok p) = 0
PointAnswer-refusal (Err n) = n

abbrev pub PointAnswer-point : PointAnswer → Point3f
PointAnswer-point (Ok p) = p
PointAnswer-point (Err n) = origin

abbrev pub BoundsAnswer-refusal : BoundsAnswer → ℕ
BoundsAnswer-refusal (bounds.Bounds b) = 0
BoundsAnswer-refusal (bounds.Refused n) = n

abbrev pub BoundsAnswer-bounds : BoundsAnswer → Bounds3f
BoundsAnswer-bounds (bounds.Bounds b) = b
BoundsAnswer-bounds (bounds.Refused n) = Bounds3f-from_point origin

-- n is one of the listed numbers.
abbrev pub OneOf : ℕ → List ℕ → Type 0
OneOf n [] = ⊥
OneOf n (k ∷ ks) = (n ≡ k) ⊎ OneOf n ks

-- document 01, Refusals: no number but 5, and an answer that isn't refused is finite
pub record PointAnswer-Judged (a : PointAnswer) : Type 0 where
  pub number : (PointAnswer-refusal a ≡ 0) ⊎ (PointAnswer-refusal a ≡ 5)
  pub values : T (Point3f-is_finite (PointAnswer-point a))

pub record BoundsAnswer-Judged (a : BoundsAnswer) : Type 0 where
  pub number : (BoundsAnswer-refusal a ≡ 0) ⊎ (BoundsAnswer-refusal a ≡ 5)
  pub values : T (Bounds3f-is_finite (BoundsAnswer-bounds a))
