-- The poses whose boxes are a window's, in their order: `window_poses`. What the code does: no promise cites it.
use Rattle.std.specs.Prelude.{ℕ, zero, suc, ◌-◌, ◌^◌, Bool, true, false, cond, List, [], ◌∷◌, ◌++◌, map, eqb, ltb, Float}
use Rattle.float32.specs.MinMax.{max_num}
use Rattle.transform.specs.declared.Transform.{Transform}
use Rattle.interval.specs.declared.Interval.{Interval}
use Rattle.animated_transform.specs.declared.AnimatedTransform.{AnimatedTransform}
use Rattle.motion_point.specs.TransformPoint.{AnimatedTransform-constants}
use Rattle.motion_piece.specs.means.Piece.{PaddedPose}
use Rattle.motion_piece.specs.means.Piece.{PaddedPose-over, PaddedPose-stored}
use Rattle.reach_laws.specs.motion_chain.Chain.{Chain, Chain-moves}
use Rattle.dt_share.specs.Share.{lower_half, upper_half, pieces}
use Rattle.window_times.specs.declared.Window.{Window}
use Rattle.window_times.specs.Window.{Window-asks_first, Window-asks_end}
use Rattle.reach_laws.specs.chain_window.Cover.{moves_in, share_in, stays_in, is_nil}

-- Piece k of the pieces of an interval.
unfoldable pub piece_at : ℕ → ℕ → Interval → Interval
piece_at zero k i = i
piece_at (suc d) k i = cond (ltb k (2 ^ d)) (piece_at d k (lower_half i)) (piece_at d (k - 2 ^ d) (upper_half i))

abbrev pub pose_over : AnimatedTransform → Interval → PaddedPose
pose_over m dt = PaddedPose-over (AnimatedTransform-constants m) m.s0 m.s1 m.pad0 m.pad1 dt

abbrev pub piece_poses : AnimatedTransform → ℕ → Interval → List PaddedPose
piece_poses m d dt = map (pose_over m) (pieces d dt)

unfoldable pub slice_poses : ℕ → Window → AnimatedTransform → List PaddedPose
slice_poses d w m = cond (moves_in w m) (piece_poses m d (share_in w m)) []

abbrev pub stored_poses : Bool → Float → Transform → List PaddedPose
stored_poses asked pad t = cond asked (PaddedPose-stored pad t ∷ []) []

-- What a move brings in each of the three passes, told by a number, so that one loop does them all.
unfoldable pub stage_poses : ℕ → Window → ℕ → Bool → Bool → AnimatedTransform → List PaddedPose
stage_poses d w k first last m =
    cond (eqb k 0) (slice_poses d w m)
    (cond (eqb k 1) (stored_poses (Window-asks_end w last m.end_time) m.pad1 m.end_transform)
    (stored_poses (stays_in w first last m) (max_num m.pad0 m.pad1) m.start_transform))

unfoldable pub poses_from : (Bool → Bool → AnimatedTransform → List PaddedPose) → Bool → List AnimatedTransform → List PaddedPose
poses_from poses first [] = []
poses_from poses first (m ∷ moves) = poses first (is_nil moves) m ++ poses_from poses false moves

unfoldable pub window_poses : Chain → ℕ → Window → List PaddedPose
window_poses c d w =
    poses_from (stage_poses d w 0) true (Chain-moves c)
    ++ stored_poses (Window-asks_first w c.first.start_time) c.first.pad0 c.first.start_transform
    ++ poses_from (stage_poses d w 1) true (Chain-moves c)
    ++ poses_from (stage_poses d w 2) true (Chain-moves c)
