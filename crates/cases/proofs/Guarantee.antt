-- Move A meets the guarantee's hypotheses, by computing (`hypotheses-met`), and what the guarantee says of it (`midpoint-covered`).
use mathlib.Core.Bool.{false}
use mathlib.Core.Path.{refl, subst}
use lib.Ieee.{fits}
use Rattle.motion_cover.specs.rounding.Order.{◌≼◌}
use Rattle.motion_cover.specs.bounds3.declared.Bounds3f.{Bounds3f}
use Rattle.motion_cover.specs.animated_transform.means.Computing as building
use Rattle.motion_cover.specs.motion_point.TransformPoint.{AnimatedTransform-transform_point}
use Rattle.motion_cover.specs.motion_point.PadAt.{AnimatedTransform-pad_at}
use Rattle.motion_cover.specs.means.Computing as cover
use Rattle.motion_cover.specs.Theorem.{MovedInside}
use Rattle.motion_cover.proofs.Contains.{cover-contains}
use Rattle.cases.specs.Cases.{zero, one, half, identity_at, shifted_at, origin, origin_box, unit_segment}
use Rattle.cases.specs.Guarantee.{move_a, HypothesesMet, MidpointCovered}

zero-refl : zero ≼ zero
unfolding building.computing
zero-refl = record { holds = tt }

pub hypotheses-met : HypothesesMet
unfolding fits building.computing cover.computing
hypotheses-met =
    record {
      built = record { rigid = false; start = identity_at zero; end = shifted_at one; start-binary32 = tt; end-binary32 = tt; accepted = refl };
      accepted = refl;
      box = refl;
      time = tt;
      inside = record { x = (zero-refl, zero-refl); y = (zero-refl, zero-refl); z = (zero-refl, zero-refl) };
    }

pub midpoint-covered : MidpointCovered
midpoint-covered =
    let h = hypotheses-met in
    subst (λ (box : Bounds3f). MovedInside box (AnimatedTransform-pad_at move_a half) (AnimatedTransform-transform_point move_a half origin)) h.box
    (cover-contains move_a origin_box 1 half origin h.built h.accepted h.time h.inside)
