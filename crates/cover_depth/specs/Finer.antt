-- A finer cover is never a wider one: the statement of `cover-finer`.
use Rattle.std.specs.Prelude.{ℕ, ◌+◌, ◌≤◌, ◌≡◌}
use Rattle.motion_cover.specs.bounds3.declared.Bounds3f.{Bounds3f}
use Rattle.motion_cover.specs.bounds3.Inside.{Subset}
use Rattle.motion_cover.specs.transform.declared.BoundsAnswer.{BoundsAnswer}
use Rattle.motion_cover.specs.transform.Answer.{BoundsAnswer-refusal, BoundsAnswer-bounds}
use Rattle.motion_cover.specs.animated_transform.declared.AnimatedTransform.{AnimatedTransform}
use Rattle.motion_cover.specs.animated_transform.Built.{Built}
use Rattle.motion_cover.specs.bounds_query.Query.{max_depth}
use Rattle.motion_cover.specs.Cover.{AnimatedTransform-cover}

-- The answer is not refused, and its box lies in c on every axis.
pub record Within (r : BoundsAnswer) (c : Bounds3f) : Type 0 where
  pub accepted : BoundsAnswer-refusal r ≡ 0
  pub subset : Subset (BoundsAnswer-bounds r) c

-- Where the cover at depth d is accepted, the cover at each greater depth up to 12 is accepted and lies in it.
abbrev pub CoverFiner : AnimatedTransform → Bounds3f → Type 0
CoverFiner m b =
    (d n : ℕ)
    → Built m → d + n ≤ max_depth → BoundsAnswer-refusal (AnimatedTransform-cover m b d) ≡ 0
    → Within (AnimatedTransform-cover m b (d + n)) (BoundsAnswer-bounds (AnimatedTransform-cover m b d))
