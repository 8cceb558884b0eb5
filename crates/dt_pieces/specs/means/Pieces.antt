-- The boxes over the pieces of an interval of dt, joined in rising order. Definitions only.
use Rattle.std.specs.Prelude.{ℕ, map, Float}
use Rattle.matrix4x4.specs.declared.Matrix4x4.{Matrix4x4}
use Rattle.bounds3.specs.declared.Bounds3f.{Bounds3f}
use Rattle.transform.specs.declared.BoundsAnswer.{BoundsAnswer}
use Rattle.interval.specs.declared.Interval.{Interval}
use Rattle.dt_share.specs.Share.{pieces}
use Rattle.pose_steps.specs.declared.PoseConstants.{PoseConstants}
use Rattle.motion_piece.specs.means.Piece.{PaddedPose-enclose_bounds, PaddedPose-over}
use Rattle.bounds_answers.specs.UnionAll.{BoundsAnswer-union_all}

-- The poses over an interval of dt, with their pad, over a box, in the two steps of `motion_piece`.
unfoldable pub piece_box : PoseConstants → Matrix4x4 → Matrix4x4 → Float → Float → Bounds3f → Interval → BoundsAnswer
piece_box a s0 s1 pad0 pad1 b dt = PaddedPose-enclose_bounds (PaddedPose-over a s0 s1 pad0 pad1 dt) b

-- r and then the boxes of the pieces, rising; the first refusal stands.
unfoldable pub union_pieces : (Interval → BoundsAnswer) → BoundsAnswer → ℕ → Interval → BoundsAnswer
union_pieces box r d i = BoundsAnswer-union_all r (map box (pieces d i))
