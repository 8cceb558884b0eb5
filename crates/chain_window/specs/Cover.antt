-- The cover of one window of a chain's times. Definitions only. Quotations are of document 02, "Two booms over one bay", unless another document is named.
-- The boxes stand in one list in the order in which they are worked: slices of all moves, then poses, then moves with equal poses.
-- The first refusal in it stands. The zeros of a window's cover are +0, as a cover's are.
use Rattle.std.specs.Prelude.{ℕ, Bool, true, false, not, ◌&&◌, cond, List, [], ◌∷◌, ◌++◌, map, eqb}
use Rattle.dt_share.specs.refusal.First.{first_refusal}
use Rattle.dt_share.specs.float32.MinMax.{max_num}
use Rattle.motion_chain.specs.bounds3.declared.Bounds3f.{Bounds3f}
use Rattle.motion_chain.specs.bounds3.Bounds3f.{Bounds3f-default}
use Rattle.motion_chain.specs.transform.declared.BoundsAnswer.{BoundsAnswer}
use Rattle.motion_chain.specs.transform.declared.BoundsAnswer.TheVariants.{Bounds, Refused}
use Rattle.motion_chain.specs.bounds_query.Query.{cover_refusal}
use Rattle.motion_chain.specs.bounds_query.Zeros.{BoundsAnswer-positive_zeros}
use Rattle.motion_chain.specs.bounds_answers.UnionAll.{BoundsAnswer-union_all}
use Rattle.motion_chain.specs.animated_transform.declared.AnimatedTransform.{AnimatedTransform}
use Rattle.motion_chain.specs.motion_point.TransformPoint.{AnimatedTransform-constants}
use Rattle.motion_chain.specs.motion_cover.Cover.{Transform-enclose_padded, AnimatedTransform-enclose_bounds}
use Rattle.motion_chain.specs.Chain.{Chain, Chain-moves}
use Rattle.dt_share.specs.interval.declared.Interval.{Interval}
use Rattle.dt_share.specs.Share.{share, pieces}
use Rattle.window_times.specs.declared.Window.{Window}
use Rattle.window_times.specs.Window.{Window-refusal, Window-overlaps, Window-asks_first, Window-asks_end, Window-belongs}

-- ---- a move's boxes, as its cover has them: "All grow by their pads as before"

-- that of the pose at its start, of the pose at its end, and of equal poses, by the larger pad
abbrev pub start_box : AnimatedTransform → Bounds3f → BoundsAnswer
start_box m b = Transform-enclose_padded m.pad0 m.start_transform b

abbrev pub end_box : AnimatedTransform → Bounds3f → BoundsAnswer
end_box m b = Transform-enclose_padded m.pad1 m.end_transform b

abbrev pub equal_box : AnimatedTransform → Bounds3f → BoundsAnswer
equal_box m b = Transform-enclose_padded (max_num m.pad0 m.pad1) m.start_transform b

-- ---- slices

-- "for each move of unequal poses that starts before the later tick and ends after the earlier one"
abbrev pub moves_in : Window → AnimatedTransform → Bool
moves_in w m = m.actually_animated && Window-overlaps w m.start_time m.end_time

abbrev pub share_in : Window → AnimatedTransform → Interval
share_in w m = share m.start_time m.end_time w.earlier w.later

-- "its share of dt .. cut by rounded midpoints d times"
unfoldable pub slice_boxes : Bounds3f → ℕ → Window → AnimatedTransform → List BoundsAnswer
slice_boxes b d w m = cond (moves_in w m) (map (λ dt. AnimatedTransform-enclose_bounds m (AnimatedTransform-constants m) dt b) (pieces d (share_in w m))) []

-- ---- poses

-- the chain's first pose, at the start of its first move
unfoldable pub first_pose_boxes : Bounds3f → Window → AnimatedTransform → List BoundsAnswer
first_pose_boxes b w m = cond (Window-asks_first w m.start_time) (start_box m b ∷ []) []

-- the pose at the end of a move, of the last one where `last`
unfoldable pub end_pose_boxes : Bounds3f → Window → Bool → AnimatedTransform → List BoundsAnswer
end_pose_boxes b w last m = cond (Window-asks_end w last m.end_time) (end_box m b ∷ []) []

-- ---- equal poses

-- "for a move with equal poses to which a time of the window belongs, its start box"
abbrev pub stays_in : Window → Bool → Bool → AnimatedTransform → Bool
stays_in w first last m = not m.actually_animated && Window-belongs w first last m.start_time m.end_time

unfoldable pub equal_pose_boxes : Bounds3f → Window → Bool → Bool → AnimatedTransform → List BoundsAnswer
equal_pose_boxes b w first last m = cond (stays_in w first last m) (equal_box m b ∷ []) []

-- ---- the window's cover

abbrev pub is_nil : List AnimatedTransform → Bool
is_nil [] = true
is_nil (m ∷ moves) = false

-- The boxes that each of the moves brings, rising; a move is asked with whether it is the first and whether it is the last.
unfoldable pub boxes_from : (Bool → Bool → AnimatedTransform → List BoundsAnswer) → Bool → List AnimatedTransform → List BoundsAnswer
boxes_from boxes first [] = []
boxes_from boxes first (m ∷ moves) = boxes first (is_nil moves) m ++ boxes_from boxes false moves

-- "worked in this order, moves and poses rising"
unfoldable pub window_boxes : Chain → Bounds3f → ℕ → Window → List BoundsAnswer
window_boxes c b d w =
    boxes_from (λ first last m. slice_boxes b d w m) true (Chain-moves c)
    ++ first_pose_boxes b w c.first
    ++ boxes_from (λ first last m. end_pose_boxes b w last m) true (Chain-moves c)
    ++ boxes_from (equal_pose_boxes b w) true (Chain-moves c)

-- The work: their union, from pbrt's empty box on.
unfoldable pub Chain-enclose_window : Chain → Bounds3f → ℕ → Window → BoundsAnswer
Chain-enclose_window c b d w = BoundsAnswer-union_all (Bounds Bounds3f-default) (window_boxes c b d w)

-- "work out a cover of that window alone": 21 of the ticks, 6 and 7 of the box, 8 of the depth, then 5 or 10, whichever is met first;
-- document 01: "a box's zero may have either sign", and a window's cover has +0
unfoldable pub Chain-window_cover : Chain → Bounds3f → ℕ → Window → BoundsAnswer
Chain-window_cover c b d w =
    let n = first_refusal (Window-refusal w) (cover_refusal b d) in
    cond (eqb n 0) (BoundsAnswer-positive_zeros (Chain-enclose_window c b d w)) (Refused n)
