-- That the guarantee's hypotheses can be met, `HypothesesMet`, so that `CoverContainsMotion` says something of some move: move A is built, and its cover of the
-- origin at depth 1 is accepted. The guarantee then gives `MidpointCovered`: at time 0.5 the origin is moved, and to a point of that cover. Statements only.
use Rattle.std.specs.Prelude.{◌≡◌, false, not, T}
use Rattle.std.specs.Float.Ieee.{is_nan}
use Rattle.motion_cover.specs.bounds3.Inside.{Inside}
use Rattle.motion_cover.specs.transform.Answer.{BoundsAnswer-refusal, BoundsAnswer-bounds}
use Rattle.motion_cover.specs.animated_transform.declared.AnimatedTransform.{AnimatedTransform}
use Rattle.motion_cover.specs.animated_transform.New.{AnimatedTransform-new}
use Rattle.motion_cover.specs.animated_transform.Built.{Built}
use Rattle.motion_cover.specs.motion_point.TransformPoint.{AnimatedTransform-transform_point}
use Rattle.motion_cover.specs.motion_point.PadAt.{AnimatedTransform-pad_at}
use Rattle.motion_cover.specs.Cover.{AnimatedTransform-cover}
use Rattle.motion_cover.specs.Theorem.{MovedInside}
use Rattle.cases.specs.Cases.{zero, one, half, identity_at, shifted_at, origin, origin_box, unit_segment}

-- "Move A: identity at time 0, identity with m03 = 1 at time 1."
abbrev pub move_a : AnimatedTransform
move_a = (AnimatedTransform-new false (identity_at zero) (shifted_at one)).value

pub record HypothesesMet : Type 0 where
  pub built : Built move_a
  pub accepted : BoundsAnswer-refusal (AnimatedTransform-cover move_a origin_box 1) ≡ 0
  pub box : BoundsAnswer-bounds (AnimatedTransform-cover move_a origin_box 1) ≡ unit_segment
  pub time : T (not (is_nan half))
  pub inside : Inside origin_box origin

abbrev pub MidpointCovered : Type 0
MidpointCovered = MovedInside unit_segment (AnimatedTransform-pad_at move_a half) (AnimatedTransform-transform_point move_a half origin)
