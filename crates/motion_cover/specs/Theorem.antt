-- The guarantee: at which moments may the boom stand outside its reserved box? At none.
--
-- Take any two poses and times from which a move is built, any box, and any depth at which the cover of the box is accepted.
-- Then at every time but NaN, both infinities included, and for every point of the box, the point query answers a moved point,
-- and that point is inside the cover on all three axes, by itself and less and plus the pad at that time, each rounded.
--
--   Built m                          m is what building gives, unrefused, for poses with times and pads in binary32 crates/animated_transform/specs/Built.antt
--   BoundsAnswer-refusal c ≡ 0       the cover is accepted, and `BoundsAnswer-bounds c` is its box               crates/transform/specs/Answer.antt
--   AnimatedTransform-transform_point the point query, whose answer has a number and a point likewise             crates/motion_point/specs/TransformPoint.antt
--   AnimatedTransform-pad_at          the pad at a time                                                           crates/motion_point/specs/PadAt.antt
--   PaddedInside                     the point, and it less and plus the pad, inside                             crates/motion_pad/specs/Grow.antt
--   Inside                           low ≤ value ≤ high on all three axes                                        crates/bounds3/specs/Inside.antt
--
-- The contract of `cover` says `CoverContainsMotion m b r` of what it returns, beside `r ≡ AnimatedTransform-cover m b depth`.
use Rattle.std.specs.Prelude.{◌≡◌, not, T, Float}
use Rattle.std.specs.Float.Ieee.{is_nan}
use Rattle.stored_box.specs.bounds3.declared.Point3f.{Point3f}
use Rattle.stored_box.specs.bounds3.declared.Bounds3f.{Bounds3f}
use Rattle.stored_box.specs.bounds3.Inside.{Inside}
use Rattle.stored_box.specs.transform.declared.BoundsAnswer.{BoundsAnswer}
use Rattle.stored_box.specs.transform.Answer.{PointAnswer, PointAnswer-refusal, PointAnswer-point, BoundsAnswer-refusal, BoundsAnswer-bounds}
use Rattle.motion_point.specs.animated_transform.declared.AnimatedTransform.{AnimatedTransform}
use Rattle.motion_point.specs.animated_transform.Built.{Built}
use Rattle.motion_point.specs.TransformPoint.{AnimatedTransform-transform_point}
use Rattle.motion_point.specs.PadAt.{AnimatedTransform-pad_at}
use Rattle.motion_pad.specs.Grow.{PaddedInside}

-- The answer is not refused, and its point is inside the box, by itself and less and plus the pad.
pub record MovedInside (box : Bounds3f) (pad : Float) (answer : PointAnswer) : Type 0 where
  pub accepted : PointAnswer-refusal answer ≡ 0
  pub inside : PaddedInside box pad (PointAnswer-point answer)

-- m is the move, b the box of points, c what the cover query answered.
abbrev pub CoverContainsMotion : AnimatedTransform → Bounds3f → BoundsAnswer → Type 0
CoverContainsMotion m b c =
    (time : Float) (p : Point3f)
    → Built m → BoundsAnswer-refusal c ≡ 0 → T (not (is_nan time)) → Inside b p
    → MovedInside (BoundsAnswer-bounds c) (AnimatedTransform-pad_at m time) (AnimatedTransform-transform_point m time p)
