-- A chain that was made of two answers up to the shared time as the first, above it as the second, and its cover is the union of
-- theirs: `join-answers`. Above the shared time is above the end time of every move of the first, since these rise (`ends-later`);
-- the union of the moves' covers may be taken in two parts (`union-all-append`).
use Prim.Native.Nat.{ℕ}
use mathlib.Core.Path.{◌≡◌, sym, ap, subst, ◌∙◌}
use mathlib.Core.Bool.{not, cond}
use mathlib.Core.List.{List, [], ◌∷◌, ◌++◌, map, map-append}
use lib.Dec.{T}
use lib.Ieee.{Float, le}
use lib.Ieee.Bits.{is_false}
use Rattle.pose_bits.specs.rounding.Order.{◌≼◌}
use Rattle.pose_bits.proofs.rounding.Order.{≼_refl, ≼_trans, number-right, lt-≼}
use Rattle.pose_bits.specs.bounds3.declared.Point3f.{Point3f}
use Rattle.pose_bits.specs.bounds3.declared.Bounds3f.{Bounds3f}
use Rattle.pose_bits.specs.transform.declared.BoundsAnswer.{BoundsAnswer}
use Rattle.built_poses.specs.bounds_query.Query.{BoundsAnswer-union_bounds}
use Rattle.built_poses.specs.bounds_answers.UnionAll.{BoundsAnswer-union_all}
use Rattle.built_poses.proofs.bounds_answers.UnionAll.{each-implies}
use Rattle.built_poses.specs.animated_transform.declared.AnimatedTransform.{AnimatedTransform}
use Rattle.built_poses.specs.motion_point.TransformPoint.{AnimatedTransform-transform_point}
use Rattle.built_poses.specs.motion_point.PadAt.{AnimatedTransform-pad_at}
use Rattle.built_poses.specs.motion_cover.Cover.{AnimatedTransform-cover}
use Rattle.built_poses.specs.motion_chain.Chain.{Chain, Chain-moves, move_from, Chain-move_at, Chain-transform_point, Chain-pad_at, union_covers, Chain-cover}
use Rattle.built_poses.specs.motion_chain.Built.{BuiltChain, Contiguous}
use Rattle.built_poses.specs.motion_chain.MoveAt.{last_from}
use Rattle.built_poses.specs.motion_chain.Times.{PointsAnswer, PointsAnswer-cons, PointsAnswer-append, points_at}
use Rattle.built_poses.proofs.motion_chain.Built.{built-moves}
use Rattle.built_poses.proofs.motion_chain.MoveAt.{above_earlier, first-move, later-move}
use Rattle.built_poses.proofs.motion_chain.Stretches.{points-append, points-same}
use Rattle.joined_chains.specs.Theorem.{Chain-append, AnswersAs, shared_time, JoinAnswers}
use Rattle.joined_chains.proofs.Union.{union-all-append}

-- ---- the move of a time
ends-later : (s : Float) (m : AnimatedTransform) (moves : List AnimatedTransform) → Contiguous s (m ∷ moves) → m.end_time ≼ (last_from m moves).end_time
unfolding last_from
ends-later s m [] (e, r, _) = ≼_refl m.end_time (number-right (lt-≼ m.start_time m.end_time r))
ends-later s m (next ∷ moves) (e, r, (e', r', c)) =
    ≼_trans (subst (λ (t : Float). t ≼ next.end_time) e' (lt-≼ next.start_time next.end_time r'))
    (ends-later m.end_time next moves (e', r', c))

module _ (time : Float) where
  move-up-to : (m : AnimatedTransform) (moves others : List AnimatedTransform) → T (le time (last_from m moves).end_time)
      → move_from m (moves ++ others) time ≡ move_from m moves time
  unfolding move_from last_from
  move-up-to m [] others h = first-move time m others h
  move-up-to m (next ∷ moves) others h = ap (λ (x : AnimatedTransform). cond (le time m.end_time) m x) (move-up-to next moves others h)

  move-above : (s : Float) (m : AnimatedTransform) (moves : List AnimatedTransform) (n : AnimatedTransform) (others : List AnimatedTransform)
      → Contiguous s (m ∷ moves) → T (not (le time (last_from m moves).end_time))
      → move_from m (moves ++ n ∷ others) time ≡ move_from n others time
  unfolding last_from
  move-above s m [] n others c h = later-move time m n others (is_false (le time m.end_time) h)
  move-above s m (next ∷ moves) n others (e, r, c) h =
      later-move time m next (moves ++ n ∷ others) (above_earlier time h (ends-later s m (next ∷ moves) (e, r, c)))
      ∙ move-above m.end_time next moves n others c h

same_move : {e c : Chain} (time : Float) → Chain-move_at e time ≡ Chain-move_at c time → AnswersAs e c time
unfolding Chain-transform_point Chain-pad_at
same_move time k = record {
  move = k;
  point = λ p. ap (λ (m : AnimatedTransform). AnimatedTransform-transform_point m time p) k;
  pad = ap (λ (m : AnimatedTransform). AnimatedTransform-pad_at m time) k;
}

-- ---- the cover, of any two chains
pub append-cover : (c d : Chain) (b : Bounds3f) (depth : ℕ)
    → Chain-cover (Chain-append c d) b depth ≡ BoundsAnswer-union_bounds (Chain-cover c b depth) (Chain-cover d b depth)
unfolding Chain-cover union_covers
append-cover c d b depth =
    let cover : AnimatedTransform → BoundsAnswer = λ m. AnimatedTransform-cover m b depth in
    ap (BoundsAnswer-union_all (cover c.first)) (map-append cover c.rest (Chain-moves d))
    ∙ union-all-append (cover c.first) (cover d.first) (map cover c.rest) (map cover d.rest)

pub join-answers : (c d : Chain) → BuiltChain c → JoinAnswers c d (Chain-append c d)
unfolding Chain-move_at
join-answers c d built = record {
  up_to = up_to;
  above = above;
  times = λ early late p h k.
      points-append (λ t. Chain-transform_point (Chain-append c d) t p) early late
      ∙ ap (λ (a : PointsAnswer). PointsAnswer-append a (points_at (λ t. Chain-transform_point (Chain-append c d) t p) late))
      (points-same _ _ early (each-implies (λ t l. (up_to t l).point p) early h))
      ∙ ap (PointsAnswer-append (points_at (λ t. Chain-transform_point c t p) early)) (points-same _ _ late (each-implies (λ t l. (above t l).point p) late k));
  cover = append-cover c d;
}
  where
    up_to : (time : Float) → T (le time (shared_time c)) → AnswersAs (Chain-append c d) c time
    up_to time h = same_move time (move-up-to time c.first c.rest (Chain-moves d) h)

    above : (time : Float) → T (not (le time (shared_time c))) → AnswersAs (Chain-append c d) d time
    above time h =
        same_move time (move-above time c.first.start_time c.first c.rest d.first d.rest (built-moves built).contiguous h)
