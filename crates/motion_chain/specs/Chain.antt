-- A chain of poses: how it is judged and built, which of its moves a time belongs to, its point query and its cover. Definitions only.
-- Quotations are of document 02, "Poses in a chain", unless another document is named.
use Rattle.std.specs.Prelude.{ℕ, Bool, true, false, ◌&&◌, ◌||◌, cond, List, [], ◌∷◌, map, eqb, ltb, length, Float}
use Rattle.std.specs.Float.Ieee.{lt, le}
use Rattle.bounds_answers.specs.refusal.First.{first_refusal}
use Rattle.bounds_answers.specs.bounds3.declared.Point3f.{Point3f}
use Rattle.bounds_answers.specs.bounds3.declared.Bounds3f.{Bounds3f}
use Rattle.bounds_answers.specs.transform.Answer.{PointAnswer}
use Rattle.bounds_answers.specs.transform.declared.BoundsAnswer.{BoundsAnswer}
use Rattle.bounds_answers.specs.UnionAll.{BoundsAnswer-union_all}
use Rattle.bounds_answers.specs.pose_pair.declared.Pose.{Pose}
use Rattle.bounds_answers.specs.pose_pair.Pose.{Pose-is_finite, Pose-is_affine, Pose-is_padded, times_refusal, Pose-kind_number}
use Rattle.bounds_answers.specs.animated_transform.declared.AnimatedTransform.{AnimatedTransform}
use Rattle.bounds_answers.specs.animated_transform.New.{AnimatedTransformAnswer}
use Rattle.bounds_answers.specs.animated_transform.New.{AnimatedTransform-new}
use Rattle.bounds_answers.specs.motion_point.TransformPoint.{AnimatedTransform-transform_point}
use Rattle.bounds_answers.specs.motion_point.PadAt.{AnimatedTransform-pad_at}
use Rattle.bounds_answers.specs.motion_cover.Cover.{AnimatedTransform-cover}

-- ---- the poses

-- "2 to 32 poses"
abbrev pub min_poses : ℕ
min_poses = 2

abbrev pub max_poses : ℕ
max_poses = 32

-- "Each neighbouring pair", "in rising order"
unfoldable pub neighbours : List Pose → List (Pose × Pose)
neighbours [] = []
neighbours (p ∷ []) = []
neighbours (p ∷ q ∷ poses) = (p, q) ∷ neighbours (q ∷ poses)

-- The test holds of every item.
unfoldable pub every : {A : Type 0} → (A → Bool) → List A → Bool
every test [] = true
every test (x ∷ xs) = test x && every test xs

-- The first number that isn't 0, or 0 for none.
unfoldable pub first_number : List ℕ → ℕ
first_number [] = 0
first_number (n ∷ ns) = first_refusal n (first_number ns)

-- What is asked of each item in turn: the first number met, or 0 for none.
abbrev pub stage : {A : Type 0} → (A → ℕ) → List A → ℕ
stage number items = first_number (map number items)

-- What the stage of number k asks of a pose by itself: its number where it isn't so, or 0.
unfoldable pub Pose-number : ℕ → Pose → ℕ
Pose-number k p =
    -- document 01: "a matrix entry or time is not finite"; document 02: nor a pad
    cond (eqb k 1) (cond (Pose-is_finite p) 0 1)
    -- document 01: "a bottom row isn't 0, 0, 0, 1"
    (cond (eqb k 2) (cond (Pose-is_affine p) 0 2)
    -- document 02, "Pads for the spray": "A pad below zero is 16"
    (cond (eqb k 16) (cond (Pose-is_padded p) 0 16)
    -- document 02, "Rigid booms": "A pose that scales or shears is 17, then a determinant of zero or below is 18"
    (cond (eqb k 17) (Pose-kind_number true p)
    0)))

-- What the stage of number k asks of two neighbouring poses.
unfoldable pub Pair-number : ℕ → Pose × Pose → ℕ
Pair-number k (p, q) =
    -- "times that don't rise strictly"
    cond (eqb k 12) (cond (lt p.time q.time) 0 12)
    -- document 01, of times that rise: "end − start is not finite"
    (cond (eqb k 3) (times_refusal p.time q.time)
    0)

-- document 02, "Rigid booms": of a rigid chain alone, "judged pose by pose"
unfoldable pub kind_stage : Bool → List Pose → ℕ
kind_stage true poses = stage (Pose-number 17) poses
kind_stage false poses = 0

-- "the whole chain's checks", each over the whole chain before the next
abbrev pub chain_stages : Bool → List Pose → List ℕ
chain_stages rigid poses =
    stage (Pose-number 1) poses
    ∷ stage (Pose-number 2) poses
    -- document 02, "Pads for the spray": 16 is "judged for each chain or move just after 2"
    ∷ stage (Pose-number 16) poses
    -- "Fewer than 2 poses, more than 32 or times that don't rise strictly are 12, judged after 2 and before 3"
    ∷ cond (ltb (length poses) min_poses || ltb max_poses (length poses)) 12 0
    ∷ stage (Pair-number 12) (neighbours poses)
    ∷ stage (Pair-number 3) (neighbours poses)
    -- document 02, "Rigid booms": "after 3"
    ∷ kind_stage rigid poses
    ∷ []

-- The number of the first stage that has one, or 0 for none.
unfoldable pub chain_refusal : Bool → List Pose → ℕ
chain_refusal rigid poses = first_number (chain_stages rigid poses)

-- ---- building

-- A built chain: its moves in rising order, of which there is a first.
pub record Chain : Type 0 where
  pub first : AnimatedTransform
  pub rest : List AnimatedTransform

abbrev pub Chain-moves : Chain → List AnimatedTransform
Chain-moves c = c.first ∷ c.rest

pub data ChainAnswer : Type 0 where
  built : Chain → ChainAnswer
  refused : ℕ → ChainAnswer

-- document 01's number of each case: 0 where nothing is refused
abbrev pub ChainAnswer-refusal : ChainAnswer → ℕ
ChainAnswer-refusal (built c) = 0
ChainAnswer-refusal (refused n) = n

-- What came of each pair, as one answer: the first number that was met stands. A chain without a pair has fewer than 2 poses.
unfoldable pub ChainAnswer-from_moves : List AnimatedTransformAnswer → ChainAnswer
ChainAnswer-from_moves [] = refused 12
ChainAnswer-from_moves (a ∷ answers) =
    let n = stage (λ x. x.refusal) (a ∷ answers) in
    cond (eqb n 0) (built (record { first = a.value; rest = map (λ x. x.value) answers })) (refused n)

-- "Each neighbouring pair is a move of document 01, worked in rising order once the whole chain's checks are over"
-- document 02, "Rigid booms": "A chain may be built as rigid", and then each move is
unfoldable pub Chain-new : Bool → List Pose → ChainAnswer
Chain-new rigid poses =
    let n = chain_refusal rigid poses in
    cond (eqb n 0) (ChainAnswer-from_moves (map (λ (p, q). AnimatedTransform-new rigid p q) (neighbours poses))) (refused n)

-- ---- queries

-- The first of m and the moves after it that ends at the time or later, or the last of them.
unfoldable pub move_from : AnimatedTransform → List AnimatedTransform → Float → AnimatedTransform
move_from m [] time = m
move_from m (next ∷ moves) time = cond (le time m.end_time) m (move_from next moves time)

-- "A time equal to an inner pose's belongs to the earlier move; times before the first pose belong to the first move, after the last to the last."
unfoldable pub Chain-move_at : Chain → Float → AnimatedTransform
Chain-move_at c time = move_from c.first c.rest time

-- document 01's point query, of the move that the time belongs to
unfoldable pub Chain-transform_point : Chain → Float → Point3f → PointAnswer
Chain-transform_point c time p = AnimatedTransform-transform_point (Chain-move_at c time) time p

-- document 02, "Pads for the spray": the pad of that move at the time
unfoldable pub Chain-pad_at : Chain → Float → Float
Chain-pad_at c time = AnimatedTransform-pad_at (Chain-move_at c time) time

-- r and then the covers of the moves, in rising order; the first refusal stands.
unfoldable pub union_covers : Bounds3f → ℕ → BoundsAnswer → List AnimatedTransform → BoundsAnswer
union_covers b depth r moves = BoundsAnswer-union_all r (map (λ m. AnimatedTransform-cover m b depth) moves)

-- "The cover is the union of the moves' covers"
unfoldable pub Chain-cover : Chain → Bounds3f → ℕ → BoundsAnswer
Chain-cover c b depth = union_covers b depth (AnimatedTransform-cover c.first b depth) c.rest
