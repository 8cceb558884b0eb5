-- The guarantee before, during and after the move: which pose moves the point, which pad holds, and that the point is inside the accepted cover. The
-- statements of `before-inside`, `during-inside` and `after-inside`; together they are `CoverContainsMotion`, since a time that is no NaN is one of the three.
use Rattle.std.specs.Prelude.{◌≡◌, not, cond, T, Float}
use Rattle.std.specs.Float.Ieee.{is_nan}
use Rattle.stored_box.specs.float32.MinMax.{max_num}
use Rattle.stored_box.specs.bounds3.declared.Point3f.{Point3f}
use Rattle.stored_box.specs.bounds3.declared.Bounds3f.{Bounds3f}
use Rattle.stored_box.specs.bounds3.Inside.{Inside}
use Rattle.stored_box.specs.transform.declared.BoundsAnswer.{BoundsAnswer}
use Rattle.stored_box.specs.transform.Answer.{PointAnswer, BoundsAnswer-refusal, BoundsAnswer-bounds}
use Rattle.stored_box.specs.transform.TransformPoint.{Transform-transform_point}
use Rattle.stored_box.specs.unit_interval.Unit.{dt}
use Rattle.stored_box.specs.pose_steps.Pose.{Pose-moved_point}
use Rattle.motion_point.specs.animated_transform.declared.AnimatedTransform.{AnimatedTransform}
use Rattle.motion_point.specs.animated_transform.Built.{Built}
use Rattle.motion_point.specs.animated_transform.AtTime.{at_start, at_end}
use Rattle.motion_point.specs.TransformPoint.{AnimatedTransform-constants, AnimatedTransform-transform_point}
use Rattle.motion_point.specs.PadAt.{AnimatedTransform-pad_at}
use Rattle.motion_pad.specs.Pad.{Pad-at}
use Rattle.motion_cover.specs.Theorem.{MovedInside}

-- The query's answer is the one named, which is not refused, and so is the pad; the point is inside the box, by itself and less and plus the pad.
pub record AnswersInside (box : Bounds3f) (query answer : PointAnswer) (pad_at pad : Float) : Type 0 where
  pub same : query ≡ answer
  pub same-pad : pad_at ≡ pad
  pub inside : MovedInside box pad answer

-- Up to the start time, and at every time where the poses are equal: the stored start pose, with its own pad or the larger.
abbrev pub BeforeInside : AnimatedTransform → Bounds3f → BoundsAnswer → Type 0
BeforeInside m b c =
    (time : Float) (p : Point3f)
    → Built m → BoundsAnswer-refusal c ≡ 0 → T (not (is_nan time)) → Inside b p → T (at_start m time)
    → AnswersInside (BoundsAnswer-bounds c) (AnimatedTransform-transform_point m time p) (Transform-transform_point m.start_transform p)
    (AnimatedTransform-pad_at m time) (cond m.actually_animated m.pad0 (max_num m.pad0 m.pad1))

-- Between the two times: the pose and the pad at dt.
abbrev pub DuringInside : AnimatedTransform → Bounds3f → BoundsAnswer → Type 0
DuringInside m b c =
    (time : Float) (p : Point3f)
    → Built m → BoundsAnswer-refusal c ≡ 0 → T (not (is_nan time)) → Inside b p → T (not (at_start m time)) → T (not (at_end m time))
    → AnswersInside (BoundsAnswer-bounds c) (AnimatedTransform-transform_point m time p)
    (Pose-moved_point (AnimatedTransform-constants m) m.s0 m.s1 (dt m.start_time m.end_time time) p)
    (AnimatedTransform-pad_at m time) (Pad-at m.pad0 m.pad1 (dt m.start_time m.end_time time))

-- From the end time on: the stored end pose, with its own pad.
abbrev pub AfterInside : AnimatedTransform → Bounds3f → BoundsAnswer → Type 0
AfterInside m b c =
    (time : Float) (p : Point3f)
    → Built m → BoundsAnswer-refusal c ≡ 0 → T (not (is_nan time)) → Inside b p → T (not (at_start m time)) → T (at_end m time)
    → AnswersInside (BoundsAnswer-bounds c) (AnimatedTransform-transform_point m time p) (Transform-transform_point m.end_transform p)
    (AnimatedTransform-pad_at m time) m.pad1
