-- The box of a piece of dt by the parts of a move, `Pose-enclose_bounds`, and what its laws ask of them, `Enclosable`: a built move's parts are so,
-- and code can test it of any others. Definitions only.
use Rattle.std.specs.Prelude.{Float}
use Rattle.motion_cover.specs.bounds3.declared.Bounds3f.{Bounds3f}
use Rattle.motion_cover.specs.matrix4x4.declared.Matrix4x4.{Matrix4x4}
use Rattle.motion_cover.specs.transform.declared.BoundsAnswer.{BoundsAnswer}
use Rattle.motion_cover.specs.interval.declared.Interval.{Interval}
use Rattle.motion_cover.specs.pose_steps.declared.PoseConstants.{PoseConstants}
use Rattle.motion_cover.specs.pose_steps.Promise.{PoseConstants-Valid, FiniteScale}
use Rattle.motion_cover.specs.pose_steps.Enclose.{Pose-enclose_point, Bounds3f-intervals}
use Rattle.motion_cover.specs.animated_transform.Built.{Pad-Judged}
use Rattle.motion_cover.specs.motion_pad.Pad.{Pad-enclose}
use Rattle.motion_cover.specs.motion_pad.Grow.{BoundsAnswer-grow}
use Rattle.motion_cover.specs.Cover.{BoundsAnswer-from_enclosure}

-- `AnimatedTransform-enclose_bounds` of a move with these parts.
abbrev pub Pose-enclose_bounds : PoseConstants → Matrix4x4 → Matrix4x4 → Float → Float → Interval → Bounds3f → BoundsAnswer
Pose-enclose_bounds a s0 s1 pad0 pad1 dt b =
    BoundsAnswer-grow (Pad-enclose pad0 pad1 dt) (BoundsAnswer-from_enclosure (Pose-enclose_point a s0 s1 dt (Bounds3f-intervals b)))

pub record Enclosable (a : PoseConstants) (s0 s1 : Matrix4x4) (pad0 pad1 : Float) : Type 0 where
  pub constants : PoseConstants-Valid a
  pub scale0 : FiniteScale s0
  pub scale1 : FiniteScale s1
  pub pad0-judged : Pad-Judged pad0
  pub pad1-judged : Pad-Judged pad1
