-- Document 01's 'Cover (added)': an interval enclosure of the motion of a box, from the steps of a pose read in intervals;
-- document 02, "Pads for the spray": "a box grows on every face as soon as it is worked out". Definitions only.
-- A query is judged first: 6, 7, 8. Then start box, end box and slices are worked in rising order, and the first number met, 5 or 10, stands. A cover's zeros are +0.
use Rattle.std.specs.Prelude.{ℕ, zero, suc, ◌^◌, cond, eqb, Float}
use Rattle.stored_box.specs.float32.MinMax.{max_num}
use Rattle.stored_box.specs.bounds3.declared.Bounds3f.{Bounds3f}
use Rattle.stored_box.specs.transform.declared.Transform.{Transform}
use Rattle.stored_box.specs.transform.declared.BoundsAnswer.{BoundsAnswer}
use Rattle.stored_box.specs.transform.declared.BoundsAnswer.TheVariants.{Bounds, Refused}
use Rattle.stored_box.specs.bounds_query.Query.{BoundsAnswer-union_bounds, cover_refusal}
use Rattle.stored_box.specs.bounds_query.Zeros.{BoundsAnswer-positive_zeros}
use Rattle.stored_box.specs.interval.declared.Interval.{Interval}
use Rattle.stored_box.specs.unit_interval.Unit.{slice}
use Rattle.stored_box.specs.pose_steps.declared.PoseConstants.{PoseConstants}
use Rattle.stored_box.specs.pose_steps.Judged.{JudgedVector}
use Rattle.stored_box.specs.EnclosePoints.{Transform-enclose_points}
use Rattle.stored_box.specs.pose_steps.Enclose.{Pose-enclose_point, Bounds3f-intervals, IntervalVector-bounds}
use Rattle.motion_point.specs.animated_transform.declared.AnimatedTransform.{AnimatedTransform}
use Rattle.motion_point.specs.TransformPoint.{AnimatedTransform-constants}
use Rattle.motion_pad.specs.Pad.{Pad-enclose, Pad-stored}
use Rattle.motion_pad.specs.Grow.{BoundsAnswer-grow}

-- Three intervals as a box, or the number that was met on the way.
unfoldable pub BoundsAnswer-from_enclosure : JudgedVector → BoundsAnswer
BoundsAnswer-from_enclosure j = cond (eqb j.refusal 0) (Bounds (IntervalVector-bounds j.vector)) (Refused j.refusal)

-- A stored transform over a box, "by the interval steps".
unfoldable pub Transform-enclose_bounds : Transform → Bounds3f → BoundsAnswer
Transform-enclose_bounds t b = BoundsAnswer-from_enclosure (Transform-enclose_points t b)

-- The same, grown by a pad.
unfoldable pub Transform-enclose_padded : Float → Transform → Bounds3f → BoundsAnswer
Transform-enclose_padded pad t b = BoundsAnswer-grow (Pad-stored pad) (Transform-enclose_bounds t b)

-- The poses over any interval of dt over a box, where a are the move's constants; "a slice's by the high end of its pad interval, worked only then"
unfoldable pub AnimatedTransform-enclose_bounds : AnimatedTransform → PoseConstants → Interval → Bounds3f → BoundsAnswer
AnimatedTransform-enclose_bounds m a dt b =
    BoundsAnswer-grow (Pad-enclose m.pad0 m.pad1 dt) (BoundsAnswer-from_enclosure (Pose-enclose_point a m.s0 m.s1 dt (Bounds3f-intervals b)))

-- "the start transform over the box, the end transform over the box"; "the two end boxes by their own pad"
unfoldable pub AnimatedTransform-enclose_ends : AnimatedTransform → Bounds3f → BoundsAnswer
AnimatedTransform-enclose_ends m b =
    BoundsAnswer-union_bounds (Transform-enclose_padded m.pad0 m.start_transform b) (Transform-enclose_padded m.pad1 m.end_transform b)

-- "and 2^d slices of dt": r and the first k of them, in rising order.
unfoldable pub union_slices : AnimatedTransform → PoseConstants → Bounds3f → ℕ → BoundsAnswer → ℕ → BoundsAnswer
union_slices m a b d r zero = r
union_slices m a b d r (suc k) = BoundsAnswer-union_bounds (union_slices m a b d r k) (AnimatedTransform-enclose_bounds m a (slice d k) b)

-- The work: "If the poses are equal by 000's own comparison it is the start transform over the box ..
-- Otherwise it is the union"; "the one box of equal poses by the larger" pad
unfoldable pub AnimatedTransform-enclose_motion : AnimatedTransform → Bounds3f → ℕ → BoundsAnswer
AnimatedTransform-enclose_motion m b d =
    cond m.actually_animated
    (union_slices m (AnimatedTransform-constants m) b d (AnimatedTransform-enclose_ends m b) (2 ^ d))
    (Transform-enclose_padded (max_num m.pad0 m.pad1) m.start_transform b)

-- The cover query; "a box's zero may have either sign", and a cover's are +0.
unfoldable pub AnimatedTransform-cover : AnimatedTransform → Bounds3f → ℕ → BoundsAnswer
AnimatedTransform-cover m b d =
    let n = cover_refusal b d in cond (eqb n 0) (BoundsAnswer-positive_zeros (AnimatedTransform-enclose_motion m b d)) (Refused n)
