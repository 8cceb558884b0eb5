-- With pads of +0 a chain's cover, a set's and a file's are equal to those without pads: `chain-unpadded`, `chain-set-unpadded`, `move-set-unpadded`,
-- `file-unpadded`; and points leave pads aside: `points-unpadded`. A built chain's moves have its poses' pads (`moves-unpadded`).
use Prim.Native.Nat.{ℕ}
use mathlib.Core.Path.{◌≡◌, refl, sym, subst}
use mathlib.Core.Bool.{Bool, true, false, cond}
use mathlib.Core.List.{List, [], ◌∷◌, map}
use lib.Dec.{T, eqb}
use lib.Ieee.{Float, le}
use Rattle.unpadded_cover.specs.float32.Operators.{positive_zero}
use Rattle.unpadded_cover.specs.bounds3.declared.Point3f.{Point3f}
use Rattle.unpadded_cover.specs.bounds3.declared.Bounds3f.{Bounds3f}
use Rattle.unpadded_cover.specs.transform.declared.BoundsAnswer.TheVariants.{Refused}
use Rattle.box_set.specs.bounds_answers.UnionAll.{BoundsAnswer-union_all, Each}
use Rattle.box_set.proofs.bounds_answers.UnionAll.{each-unmap}
use Rattle.unpadded_cover.specs.pose_pair.declared.Pose.{Pose}
use Rattle.unpadded_cover.specs.pose_pair.Pose.{Pose-is_padded}
use Rattle.unpadded_cover.specs.animated_transform.declared.AnimatedTransform.{AnimatedTransform}
use Rattle.unpadded_cover.specs.animated_transform.Built.{Built}
use Rattle.unpadded_cover.specs.motion_point.TransformPoint.{AnimatedTransform-moved_point, AnimatedTransform-transform_point}
use Rattle.unpadded_cover.specs.motion_cover.Cover.{AnimatedTransform-cover}
use Rattle.unpadded_cover.specs.Unpadded.{AnimatedTransform-cover_unpadded}
use Rattle.unpadded_cover.proofs.Unpadded.{cover-unpadded}
use Rattle.unpadded_cover.specs.motion_pad.means.Computing as pad
use Rattle.box_set.specs.motion_chain.Chain.{neighbours, first_number, Pose-number, Chain, Chain-moves, ChainAnswer, built, refused, Chain-new}
use Rattle.box_set.specs.motion_chain.Chain.{move_from, Chain-move_at, Chain-transform_point, union_covers, Chain-cover}
use Rattle.box_set.proofs.motion_chain.Built.{built-moves}
use Rattle.built_poses.specs.Poses.{AnimatedTransform-start_pose, AnimatedTransform-end_pose}
use Rattle.built_poses.proofs.Built.{built-pairs}
use Rattle.box_set.specs.Set.{Boxes-covers}
use Rattle.built_poses.specs.chain_poses.Poses.{Poses-of_lists}
use Rattle.motion_answer.specs.motion_file.Layout.{MoveFile-read, MoveFile-box, MoveFile-poses}
use Rattle.motion_answer.specs.Answer.{cover_depth, ChainAnswer-cover, MoveFile-chain, MoveFile-cover}
use Rattle.motion_answer.proofs.Built.{poses-binary32}
use Rattle.unpadded_chain.specs.Unpadded.{Chain-cover_unpadded, ChainAnswer-cover_unpadded}
use Rattle.unpadded_chain.specs.Unpadded.{Unpadded, ZeroAccepted, ChainUnpadded, FileUnpadded}
use Rattle.unpadded_chain.specs.Unpadded.{ChainSetUnpadded, MoveSetUnpadded, AnimatedTransform-without_pads, PointsUnpadded}

-- ---- a chain
-- the pads of a move are those of two poses of the chain
abbrev MoveUnpadded : AnimatedTransform → Type 0
MoveUnpadded m = (m.pad0 ≡ positive_zero) × (m.pad1 ≡ positive_zero)

module _ (b : Bounds3f) (d : ℕ) where
  covers-equal : (moves : List AnimatedTransform) → Each Built moves → Each MoveUnpadded moves
      → map (λ m. AnimatedTransform-cover m b d) moves ≡ map (λ m. AnimatedTransform-cover_unpadded m b d) moves
  covers-equal [] hs es = refl
  covers-equal (m ∷ moves) (h, hs) ((e, f), es) = λ i. cover-unpadded m b d h e f i ∷ covers-equal moves hs es i

  chain-equal : (c : Chain) → Each Built (Chain-moves c) → Each MoveUnpadded (Chain-moves c) → Chain-cover c b d ≡ Chain-cover_unpadded c b d
  unfolding Chain-cover union_covers
  chain-equal c (h, hs) ((e, f), es) = λ i. BoundsAnswer-union_all (cover-unpadded c.first b d h e f i) (covers-equal c.rest hs es i)

abbrev PairUnpadded : Pose × Pose → Type 0
PairUnpadded (p, q) = (p.pad ≡ positive_zero) × (q.pad ≡ positive_zero)

pairs-unpadded : (poses : List Pose) → Unpadded poses → Each PairUnpadded (neighbours poses)
unfolding neighbours
pairs-unpadded [] es = tt
pairs-unpadded (p ∷ []) es = tt
pairs-unpadded (p ∷ q ∷ poses) (e, (f, es)) = ((e, f), pairs-unpadded (q ∷ poses) (f, es))

moves-unpadded : (rigid : Bool) (poses : List Pose) (c : Chain) → Unpadded poses → Chain-new rigid poses ≡ built c → Each MoveUnpadded (Chain-moves c)
moves-unpadded rigid poses c h e =
    each-unmap PairUnpadded (λ m. (AnimatedTransform-start_pose m, AnimatedTransform-end_pose m)) (Chain-moves c)
    (subst (Each PairUnpadded) (sym (built-pairs rigid poses c e)) (pairs-unpadded poses h))

pub chain-unpadded : (rigid : Bool) (poses : List Pose) → ChainUnpadded rigid poses
chain-unpadded rigid poses c b d f h e =
    chain-equal b d c (built-moves (record { rigid = rigid; poses = poses; poses-binary32 = f; accepted = e })).each (moves-unpadded rigid poses c h e)

-- ---- building
zero-padded : (p : Pose) → p.pad ≡ positive_zero → Pose-is_padded p ≡ true
unfolding Pose-is_padded pad.computing
zero-padded p e = rw e refl

pub zero-accepted : (poses : List Pose) → ZeroAccepted poses
unfolding first_number Pose-number
zero-accepted [] h = refl
zero-accepted (p ∷ poses) (e, h) = rw (zero-padded p e, zero-accepted poses h)

-- ---- sets
pub chain-set-unpadded : (rigid : Bool) (poses : List Pose) → ChainSetUnpadded rigid poses
chain-set-unpadded rigid poses c boxes d f h e = λ i. Boxes-covers (λ b. chain-unpadded rigid poses c b d f h e i) boxes

pub move-set-unpadded : (m : AnimatedTransform) (boxes : List Bounds3f) (d : ℕ) → MoveSetUnpadded m boxes d
move-set-unpadded m boxes d h e f = λ i. Boxes-covers (λ b. cover-unpadded m b d h e f i) boxes

-- ---- files
answer-equal : (a : ChainAnswer) (b : Bounds3f) → ((c : Chain) → a ≡ built c → Chain-cover c b cover_depth ≡ Chain-cover_unpadded c b cover_depth)
    → ChainAnswer-cover a b ≡ ChainAnswer-cover_unpadded a b
unfolding ChainAnswer-cover
answer-equal (built c) b h = h c refl
answer-equal (refused n) b h = refl

pub file-unpadded : (rigid : Bool) (bytes : List ℕ) → FileUnpadded rigid bytes
unfolding MoveFile-cover MoveFile-chain
file-unpadded rigid bytes h =
    let poses = Poses-of_lists (MoveFile-poses bytes) in
    let b = MoveFile-box bytes in
    let n = (MoveFile-read bytes).refusal in
    let same = answer-equal (MoveFile-chain rigid bytes) b (λ c e. chain-unpadded rigid poses c b cover_depth (poses-binary32 bytes) h e) in
    λ i. cond (eqb n 0) (same i) (Refused n)

-- ---- points
move-unpadded : (m : AnimatedTransform) (moves : List AnimatedTransform) (time : Float)
    → move_from (AnimatedTransform-without_pads m) (map AnimatedTransform-without_pads moves) time ≡ AnimatedTransform-without_pads (move_from m moves time)
unfolding move_from
move-unpadded m [] time = refl
move-unpadded m (next ∷ moves) time = go (le time m.end_time) (move-unpadded next moves time)
  where
    go : (here : Bool)
        → move_from (AnimatedTransform-without_pads next) (map AnimatedTransform-without_pads moves) time
        ≡ AnimatedTransform-without_pads (move_from next moves time)
        → cond here (AnimatedTransform-without_pads m) (move_from (AnimatedTransform-without_pads next) (map AnimatedTransform-without_pads moves) time)
        ≡ AnimatedTransform-without_pads (cond here m (move_from next moves time))
    go true e = refl
    go false e = e

point-unpadded : (m : AnimatedTransform) (time : Float) (p : Point3f)
    → AnimatedTransform-transform_point m time p ≡ AnimatedTransform-transform_point (AnimatedTransform-without_pads m) time p
unfolding AnimatedTransform-transform_point AnimatedTransform-moved_point
point-unpadded m time p = refl

pub points-unpadded : (c : Chain) (time : Float) (p : Point3f) → PointsUnpadded c time p
unfolding Chain-transform_point Chain-move_at
points-unpadded c time p = rw (move-unpadded c.first c.rest time) (point-unpadded (move_from c.first c.rest time) time p)
