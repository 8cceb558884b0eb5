-- Document 01's cover as it was without pads, its zeros +0, `AnimatedTransform-cover_unpadded`, and that a cover with pads of +0 is equal to it:
-- `CoverUnpadded`, the statement of `cover-unpadded`.
use Rattle.std.specs.Prelude.{ℕ, zero, suc, ◌^◌, ◌≡◌, cond, eqb}
use Rattle.motion_cover.specs.float32.Operators.{positive_zero}
use Rattle.motion_cover.specs.bounds3.declared.Bounds3f.{Bounds3f}
use Rattle.motion_cover.specs.transform.declared.BoundsAnswer.{BoundsAnswer}
use Rattle.motion_cover.specs.transform.declared.BoundsAnswer.TheVariants.{Refused}
use Rattle.motion_cover.specs.bounds_query.Query.{BoundsAnswer-union_bounds, cover_refusal}
use Rattle.motion_cover.specs.bounds_query.Zeros.{BoundsAnswer-positive_zeros}
use Rattle.motion_cover.specs.unit_interval.Unit.{slice}
use Rattle.motion_cover.specs.pose_steps.declared.PoseConstants.{PoseConstants}
use Rattle.motion_cover.specs.pose_steps.Enclose.{Pose-enclose_point, Bounds3f-intervals}
use Rattle.motion_cover.specs.animated_transform.declared.AnimatedTransform.{AnimatedTransform}
use Rattle.motion_cover.specs.animated_transform.Built.{Built}
use Rattle.motion_cover.specs.motion_point.TransformPoint.{AnimatedTransform-constants}
use Rattle.motion_cover.specs.Cover.{BoundsAnswer-from_enclosure, Transform-enclose_bounds, AnimatedTransform-cover}

-- r and the first k slices, in rising order.
unfoldable pub union_unpadded : AnimatedTransform → PoseConstants → Bounds3f → ℕ → BoundsAnswer → ℕ → BoundsAnswer
union_unpadded m a b d r zero = r
union_unpadded m a b d r (suc k) =
    BoundsAnswer-union_bounds (union_unpadded m a b d r k) (BoundsAnswer-from_enclosure (Pose-enclose_point a m.s0 m.s1 (slice d k) (Bounds3f-intervals b)))

unfoldable pub AnimatedTransform-cover_unpadded : AnimatedTransform → Bounds3f → ℕ → BoundsAnswer
AnimatedTransform-cover_unpadded m b d =
    let start = Transform-enclose_bounds m.start_transform b in
    let end = Transform-enclose_bounds m.end_transform b in
    let slices = union_unpadded m (AnimatedTransform-constants m) b d (BoundsAnswer-union_bounds start end) (2 ^ d) in
    let n = cover_refusal b d in
    cond (eqb n 0) (BoundsAnswer-positive_zeros (cond m.actually_animated slices start)) (Refused n)

abbrev pub CoverUnpadded : AnimatedTransform → Bounds3f → ℕ → Type 0
CoverUnpadded m b d = Built m → m.pad0 ≡ positive_zero → m.pad1 ≡ positive_zero → AnimatedTransform-cover m b d ≡ AnimatedTransform-cover_unpadded m b d
