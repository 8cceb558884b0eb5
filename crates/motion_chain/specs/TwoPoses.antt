-- A chain of two poses is document 01's move, but for times that don't rise strictly:
-- `TwoPoses` and `SingleMove`, the statements of `two-poses` and `single-move`.
use Rattle.std.specs.Prelude.{ℕ, ◌≡◌, Bool, not, [], ◌∷◌, T, Float}
use Rattle.std.specs.Float.Ieee.{lt}
use Rattle.bounds_answers.specs.bounds3.declared.Point3f.{Point3f}
use Rattle.bounds_answers.specs.bounds3.declared.Bounds3f.{Bounds3f}
use Rattle.bounds_answers.specs.pose_pair.declared.Pose.{Pose}
use Rattle.bounds_answers.specs.pose_pair.Pose.{Pose-is_finite, Pose-is_affine, Pose-is_padded, Pose-kind_number}
use Rattle.bounds_answers.specs.animated_transform.declared.AnimatedTransform.{AnimatedTransform}
use Rattle.bounds_answers.specs.animated_transform.New.{AnimatedTransform-from_poses, AnimatedTransform-new}
use Rattle.bounds_answers.specs.motion_point.TransformPoint.{AnimatedTransform-transform_point}
use Rattle.bounds_answers.specs.motion_cover.Cover.{AnimatedTransform-cover}
use Rattle.motion_chain.specs.Chain.{every, Chain, built, refused, Chain-new, Chain-transform_point, Chain-cover}

-- The chain of one move.
abbrev pub Chain-single : AnimatedTransform → Chain
Chain-single m = record { first = m; rest = [] }

-- Neither pose is refused with 1, 2 or 16.
pub record Checked (p q : Pose) : Type 0 where
  pub finite : T (every Pose-is_finite (p ∷ q ∷ []))
  pub affine : T (every Pose-is_affine (p ∷ q ∷ []))
  pub padded : T (every Pose-is_padded (p ∷ q ∷ []))

-- Of either kind, rigid or not.
pub record TwoPoses (rigid : Bool) (p q : Pose) : Type 0 where
  -- Where the times rise strictly, the chain is the move, or is refused with the move's own number.
  pub same_move : T (lt p.time q.time) → (AnimatedTransform-new rigid p q).refusal ≡ 0
      → Chain-new rigid (p ∷ q ∷ []) ≡ built (Chain-single (AnimatedTransform-new rigid p q).value)
  pub same-refusal : T (lt p.time q.time) → ((AnimatedTransform-new rigid p q).refusal ≡ 0 → ⊥)
      → Chain-new rigid (p ∷ q ∷ []) ≡ refused (AnimatedTransform-new rigid p q).refusal
  -- "times that don't rise strictly are 12, judged after 2", where document 01 has 3 for falling times
  pub not-rising : Checked p q → T (not (lt p.time q.time)) → Chain-new rigid (p ∷ q ∷ []) ≡ refused 12
  -- "a move built by itself keeps document 01's rule for its times": between equal times it is worked
  pub equal-times : Checked p q → Pose-kind_number rigid p ≡ 0 → Pose-kind_number rigid q ≡ 0
      → p.time ≡ q.time → AnimatedTransform-new rigid p q ≡ AnimatedTransform-from_poses rigid p q

-- The queries of a chain of one move are the move's own.
pub record SingleMove (m : AnimatedTransform) : Type 0 where
  pub point : (time : Float) (p : Point3f) → Chain-transform_point (Chain-single m) time p ≡ AnimatedTransform-transform_point m time p
  pub cover : (b : Bounds3f) (depth : ℕ) → Chain-cover (Chain-single m) b depth ≡ AnimatedTransform-cover m b depth
