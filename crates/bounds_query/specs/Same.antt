-- When two answers are the same, `BoundsAnswer-Same`: what document 01 calls the "same box", boxes being compared "with zeros of either sign equal".
-- Definitions only.
use Rattle.std.specs.Prelude.{ℕ}
use Rattle.bounds3.specs.declared.Bounds3f.{Bounds3f}
use Rattle.bounds3.specs.Inside.{Subset}
use Rattle.transform.specs.declared.BoundsAnswer.{BoundsAnswer}
use Rattle.transform.specs.declared.BoundsAnswer.TheVariants.{Bounds, Refused}

-- Two boxes that lie in each other, or the same refusal.
pub data BoundsAnswer-Same : BoundsAnswer → BoundsAnswer → Type 0 where
  same-box : {a b : Bounds3f} → Subset a b → Subset b a → BoundsAnswer-Same (Bounds a) (Bounds b)
  same-refusal : (n : ℕ) → BoundsAnswer-Same (Refused n) (Refused n)
