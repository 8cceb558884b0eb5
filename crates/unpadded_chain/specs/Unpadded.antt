-- The cover of a chain and of a file as they were without pads, `Chain-cover_unpadded` and `MoveFile-cover_unpadded`; that where every
-- pose's pad is +0 a chain's cover, a set's and a file's are equal to those without pads, and that points leave pads aside.
-- The statements of `chain-unpadded`, `chain-set-unpadded`, `move-set-unpadded`, `file-unpadded`, `thirteen-unpadded`, `zero-accepted` and `points-unpadded`.
use Rattle.std.specs.Prelude.{ℕ, ◌≡◌, Bool, not, cond, List, map, T, eqb, Float}
use Rattle.unpadded_cover.specs.float32.Operators.{positive_zero}
use Rattle.unpadded_cover.specs.bounds3.declared.Point3f.{Point3f}
use Rattle.unpadded_cover.specs.bounds3.declared.Bounds3f.{Bounds3f}
use Rattle.unpadded_cover.specs.transform.declared.BoundsAnswer.{BoundsAnswer}
use Rattle.unpadded_cover.specs.transform.declared.BoundsAnswer.TheVariants.{Refused}
use Rattle.box_set.specs.bounds_answers.UnionAll.{BoundsAnswer-union_all, Each}
use Rattle.unpadded_cover.specs.pose_pair.declared.Pose.{Pose}
use Rattle.unpadded_cover.specs.pose_pair.Pose.{Pose-is_binary32}
use Rattle.unpadded_cover.specs.animated_transform.declared.AnimatedTransform.{AnimatedTransform}
use Rattle.unpadded_cover.specs.animated_transform.Built.{Built}
use Rattle.unpadded_cover.specs.Unpadded.{AnimatedTransform-cover_unpadded}
use Rattle.box_set.specs.motion_chain.Chain.{every, stage, Pose-number, Chain, ChainAnswer, built, refused, Chain-new, Chain-transform_point, Chain-cover}
use Rattle.box_set.specs.Set.{Boxes-covers, Chain-covers, AnimatedTransform-covers}
use Rattle.built_poses.specs.chain_poses.Poses.{Poses-of_lists}
use Rattle.motion_answer.specs.motion_file.declared.MoveFile.{MoveFile}
use Rattle.motion_answer.specs.motion_file.Layout.{has_pads, MoveFile-read, MoveFile-box, MoveFile-poses}
use Rattle.motion_answer.specs.Answer.{cover_depth, MoveFile-chain, MoveFile-cover}

-- ---- without pads

-- document 02, "Poses in a chain": "The cover is the union of the moves' covers"
abbrev pub Chain-cover_unpadded : Chain → Bounds3f → ℕ → BoundsAnswer
Chain-cover_unpadded c b d = BoundsAnswer-union_all (AnimatedTransform-cover_unpadded c.first b d) (map (λ m. AnimatedTransform-cover_unpadded m b d) c.rest)

abbrev pub ChainAnswer-cover_unpadded : ChainAnswer → Bounds3f → BoundsAnswer
ChainAnswer-cover_unpadded (built c) b = Chain-cover_unpadded c b cover_depth
ChainAnswer-cover_unpadded (refused n) b = Refused n

abbrev pub MoveFile-cover_unpadded : Bool → List ℕ → BoundsAnswer
MoveFile-cover_unpadded rigid bytes =
    let n = (MoveFile-read bytes).refusal in
    cond (eqb n 0) (ChainAnswer-cover_unpadded (MoveFile-chain rigid bytes) (MoveFile-box bytes)) (Refused n)

-- ---- pads of +0

abbrev pub Unpadded : List Pose → Type 0
Unpadded poses = Each (λ p. p.pad ≡ positive_zero) poses

-- no such pad is refused
abbrev pub ZeroAccepted : List Pose → Type 0
ZeroAccepted poses = Unpadded poses → stage (Pose-number 16) poses ≡ 0

abbrev pub ChainUnpadded : Bool → List Pose → Type 0
ChainUnpadded rigid poses =
    (c : Chain) (b : Bounds3f) (d : ℕ) → T (every Pose-is_binary32 poses) → Unpadded poses → Chain-new rigid poses ≡ built c
    → Chain-cover c b d ≡ Chain-cover_unpadded c b d

-- a file with either names whose pads are +0
abbrev pub FileUnpadded : Bool → List ℕ → Type 0
FileUnpadded rigid bytes = Unpadded (Poses-of_lists (MoveFile-poses bytes)) → MoveFile-cover rigid bytes ≡ MoveFile-cover_unpadded rigid bytes

-- document 02: "A file with the old thirteen names has pads of +0"
abbrev pub ThirteenUnpadded : List ℕ → Type 0
ThirteenUnpadded bytes = T (not (has_pads bytes)) → Unpadded (Poses-of_lists (MoveFile-poses bytes))

-- ---- sets

-- of a chain, and of a move by itself
abbrev pub ChainSetUnpadded : Bool → List Pose → Type 0
ChainSetUnpadded rigid poses =
    (c : Chain) (boxes : List Bounds3f) (d : ℕ) → T (every Pose-is_binary32 poses) → Unpadded poses → Chain-new rigid poses ≡ built c
    → Chain-covers c boxes d ≡ Boxes-covers (λ b. Chain-cover_unpadded c b d) boxes

abbrev pub MoveSetUnpadded : AnimatedTransform → List Bounds3f → ℕ → Type 0
MoveSetUnpadded m boxes d = Built m → m.pad0 ≡ positive_zero → m.pad1 ≡ positive_zero
    → AnimatedTransform-covers m boxes d ≡ Boxes-covers (λ b. AnimatedTransform-cover_unpadded m b d) boxes

-- ---- points

-- a move with pads of +0, and all else as it is
abbrev pub AnimatedTransform-without_pads : AnimatedTransform → AnimatedTransform
AnimatedTransform-without_pads m =
    record {
      start_transform = m.start_transform;
      end_transform = m.end_transform;
      start_time = m.start_time;
      end_time = m.end_time;
      actually_animated = m.actually_animated;
      has_rotation = m.has_rotation;
      t0 = m.t0;
      t1 = m.t1;
      r0 = m.r0;
      r1 = m.r1;
      s0 = m.s0;
      s1 = m.s1;
      coefficients = m.coefficients;
      pad0 = positive_zero;
      pad1 = positive_zero;
      rigid = m.rigid;
    }

abbrev pub Chain-without_pads : Chain → Chain
Chain-without_pads c = record { first = AnimatedTransform-without_pads c.first; rest = map AnimatedTransform-without_pads c.rest }

abbrev pub PointsUnpadded : Chain → Float → Point3f → Type 0
PointsUnpadded c time p = Chain-transform_point c time p ≡ Chain-transform_point (Chain-without_pads c) time p
