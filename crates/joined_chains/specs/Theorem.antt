-- What is promised of two built chains made one: it is built, and its moves are the first's and then the second's, `Joins`;
-- "Up to the shared time it answers as the first, above it as the second, and its cover is the union of theirs" (document 02,
-- "Two chains made one"), `JoinAnswers`. The statements of `joins` and `join-answers`.
use Rattle.std.specs.Prelude.{ℕ, ◌≡◌, not, List, ◌++◌, T, Float}
use Rattle.std.specs.Float.Ieee.{le}
use Rattle.pose_bits.specs.bounds3.declared.Point3f.{Point3f}
use Rattle.pose_bits.specs.bounds3.declared.Bounds3f.{Bounds3f}
use Rattle.built_poses.specs.bounds_query.Query.{BoundsAnswer-union_bounds}
use Rattle.built_poses.specs.motion_chain.Chain.{Chain, Chain-moves, built, Chain-move_at, Chain-transform_point, Chain-pad_at, Chain-cover}
use Rattle.built_poses.specs.motion_chain.Built.{BuiltChain, Each}
use Rattle.built_poses.specs.motion_chain.Times.{PointsAnswer-append, points_at}
use Rattle.joined_chains.specs.Join.{Chain-last_pose, Chain-first_pose, Chain-join_refusal, Chain-join}

-- The moves of the first, then those of the second.
abbrev pub Chain-append : Chain → Chain → Chain
Chain-append c d = record { first = c.first; rest = c.rest ++ Chain-moves d }

-- Of two built chains whose shared pose is the same: where joining is not refused with 20 or 12, building refuses nothing.
abbrev pub Joins : Chain → Chain → Type 0
Joins c d =
    BuiltChain c → BuiltChain d → Chain-last_pose c ≡ Chain-first_pose d → Chain-join_refusal c d ≡ 0
    → (Chain-join c d ≡ built (Chain-append c d)) × BuiltChain (Chain-append c d)

-- Two chains answer alike at a time: it belongs to the same move of both.
pub record AnswersAs (e c : Chain) (time : Float) : Type 0 where
  pub move : Chain-move_at e time ≡ Chain-move_at c time
  pub point : (p : Point3f) → Chain-transform_point e time p ≡ Chain-transform_point c time p
  pub pad : Chain-pad_at e time ≡ Chain-pad_at c time

abbrev pub shared_time : Chain → Float
shared_time c = (Chain-last_pose c).time

-- e is the chain that was made of c and d. A list's times up to the shared time and those above it are answered by the two chains in turn;
-- the first refusal stands, as it does in a union of covers.
pub record JoinAnswers (c d e : Chain) : Type 0 where
  pub up_to : (time : Float) → T (le time (shared_time c)) → AnswersAs e c time
  pub above : (time : Float) → T (not (le time (shared_time c))) → AnswersAs e d time
  pub times : (early late : List Float) (p : Point3f) → Each (λ t. T (le t (shared_time c))) early → Each (λ t. T (not (le t (shared_time c)))) late
      → points_at (λ t. Chain-transform_point e t p) (early ++ late)
      ≡ PointsAnswer-append (points_at (λ t. Chain-transform_point c t p) early) (points_at (λ t. Chain-transform_point d t p) late)
  pub cover : (b : Bounds3f) (depth : ℕ) → Chain-cover e b depth ≡ BoundsAnswer-union_bounds (Chain-cover c b depth) (Chain-cover d b depth)
