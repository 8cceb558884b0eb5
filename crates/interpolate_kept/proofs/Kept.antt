-- The transform of a kept move is the move's, `interpolate-kept`, and that of a kept chain the chain's, `chain-interpolate-kept`. Where it is answered, it moves
-- a finite point as the point query of the same rows does: `interpolate-points`. Its numbers: `rows-interpolate-refusal`, `rows-interpolate-refused`.
use Rattle.std.specs.Prelude.{Err}
use mathlib.Core.Path.{◌≡◌, refl, sym, ap, subst, ◌∙◌}
use mathlib.Core.Bool.{Bool, true, false, not, ◌||◌, cond}
use mathlib.Core.List.{List, []}
use native.Mathlib.Omega.{arith}
use lib.Dec.{T, eqb}
use lib.ListN.{length, get_or}
use lib.Ieee.{Float, is_nan}
use Rattle.transform.specs.matrix4x4.Rows.{Rows}
use Rattle.transform.specs.bounds3.declared.Point3f.{Point3f}
use Rattle.transform.specs.bounds3.Finite.{Point3f-is_finite, Finite}
use Rattle.transform.proofs.bounds3.Finite.{finite-test}
use Rattle.transform.specs.declared.Transform.{Transform}
use Rattle.std.specs.Prelude.{Result, Ok, Err, IfOk}
use Rattle.refusal.specs.declared.Refusal.{Refusal}
use Rattle.transform.specs.Transform.{TransformAnswer, TransformAnswer-of_result}
use Rattle.transform.specs.Answer.{PointAnswer}
use Rattle.transform.specs.Transform.{TransformAnswer-refused}
use Rattle.transform.specs.TransformPoint.{Transform-transform_point}
use Rattle.pose_slerp.specs.unit_interval.Unit.{dt}
use Rattle.pose_slerp.specs.pose_steps.declared.PoseConstants.{PoseConstants}
use Rattle.interpolation.specs.animated_transform.declared.AnimatedTransform.{AnimatedTransform}
use Rattle.interpolation.specs.animated_transform.AtTime.{at_start, at_end}
use Rattle.motion_rows.specs.motion_point.TransformPoint.{AnimatedTransform-constants, AnimatedTransform-moved_point}
use Rattle.interpolation.specs.Interpolate.{Transform-is_finite, TransformAnswer-accepted, TransformAnswer-judged, AnimatedTransform-pose_at, Pose-transform, AnimatedTransform-interpolate_by}
use Rattle.interpolation.specs.Interpolate.{AnimatedTransform-interpolate}
use Rattle.interpolation.specs.Promise.{InterpolationNumber}
use Rattle.interpolation.proofs.Numbers.{interpolate-by-refusal, interpolate-by-refused}
use Rattle.interpolation.proofs.Pose.{transform-same, transform-point}
use Rattle.motion_rows.specs.Rows.{AnimatedTransform-to_rows, AnimatedTransform-from_rows, PoseConstants-from_rows}
use Rattle.motion_rows.specs.TransformPoint.{Rows-transform_point}
use Rattle.motion_rows.proofs.RoundTrip.{from-rows-inverse, constants-inverse}
use Rattle.chain_rows.specs.motion_chain.Chain.{Chain, Chain-move_at}
use Rattle.chain_rows.specs.motion_chain.MoveAt.{Chain-index_at}
use Rattle.chain_rows.specs.Kept.{Chain-to_rows, Moves-chain, Moves-transform_point}
use Rattle.chain_rows.proofs.Kept.{chain-inverse, not-empty, move-kept}
use Rattle.interpolate_kept.specs.Kept.{Rows-interpolate, Chain-interpolate, Moves-interpolate}
use Rattle.interpolate_kept.specs.Theorem.{MovesPoints}

-- ---- which answer the time chooses
module _ (m : AnimatedTransform) (between : Float → TransformAnswer) (time : Float) where
  pub by-start : is_nan time ≡ false → at_start m time ≡ true → AnimatedTransform-interpolate_by m between time ≡ TransformAnswer-judged m.start_transform
  unfolding AnimatedTransform-interpolate_by
  by-start n s = rw (n, s)

  pub by_end : is_nan time ≡ false → at_start m time ≡ false → at_end m time ≡ true
      → AnimatedTransform-interpolate_by m between time ≡ TransformAnswer-judged m.end_transform
  unfolding AnimatedTransform-interpolate_by
  by_end n s e = rw (n, s, e)

  pub by-between : is_nan time ≡ false → at_start m time ≡ false → at_end m time ≡ false
      → AnimatedTransform-interpolate_by m between time ≡ between (dt m.start_time m.end_time time)
  unfolding AnimatedTransform-interpolate_by
  by-between n s e = rw (n, s, e)

-- ---- of the rows of a move
pub interpolate-kept : (m : AnimatedTransform) (time : Float) → Rows-interpolate (AnimatedTransform-to_rows m) time ≡ AnimatedTransform-interpolate m time
unfolding Rows-interpolate
interpolate-kept m time =
    let own : Pose-transform (AnimatedTransform-constants m) m.s0 m.s1 ≡ AnimatedTransform-pose_at m = λ i x. transform-same m x i in
    rw (from-rows-inverse m, constants-inverse m, own)

pub chain-interpolate-kept : (rows : List Rows) (c : Chain) (time : Float) → rows ≡ Chain-to_rows c → Moves-interpolate rows time ≡ Chain-interpolate c time
unfolding Moves-interpolate Chain-interpolate
chain-interpolate-kept rows c time e = rw (e, not-empty c, chain-inverse c, move-kept c time) (interpolate-kept (Chain-move_at c time) time)

-- ---- the numbers, of any rows
pub rows-interpolate-refusal : (rows : Rows) (time : Float) → InterpolationNumber (Rows-interpolate rows time).refusal
unfolding Rows-interpolate
rows-interpolate-refusal rows time =
    let m = AnimatedTransform-from_rows rows in interpolate-by-refusal m (PoseConstants-from_rows rows) m.s0 m.s1 time

pub rows-interpolate-refused : (rows : Rows) (time : Float) → ((Rows-interpolate rows time).refusal ≡ 0 → ⊥)
    → Rows-interpolate rows time ≡ TransformAnswer-refused (Rows-interpolate rows time).refusal
unfolding Rows-interpolate
rows-interpolate-refused rows time =
    let m = AnimatedTransform-from_rows rows in interpolate-by-refused m (PoseConstants-from_rows rows) m.s0 m.s1 time

-- ---- an answered transform beside the point query
module _ (p : Point3f) where
  -- Where the transform is answered, it moves p to what the point query answers.
  abbrev Moves : TransformAnswer → PointAnswer → Type 0
  Moves r q = r.refusal ≡ 0 → Transform-transform_point r.transform p ≡ q

  judged-moves : (t : Transform) → Moves (TransformAnswer-judged t) (Transform-transform_point t p)
  unfolding TransformAnswer-judged
  judged-moves t = go (Transform-is_finite t)
    where
      go : (b : Bool) → Moves (cond b (TransformAnswer-accepted t) (TransformAnswer-refused 5)) (Transform-transform_point t p)
      go true z = refl
      go false z = absurd (omega (arith, z))

  -- The two queries choose by the same tests.
  chosen : (n b s e : Bool) (x y w : TransformAnswer) (q r v : PointAnswer) → T b → Moves x q → Moves y r → Moves w v
      → Moves (cond n (TransformAnswer-refused 6) (cond s x (cond e y w))) (cond (n || not b) (Err 6) (cond s q (cond e r v)))
  chosen true b s e x y w q r v t α β γ z = absurd (omega (arith, z))
  chosen false true true e x y w q r v t α β γ z = α z
  chosen false true false true x y w q r v t α β γ z = β z
  chosen false true false false x y w q r v t α β γ z = γ z
  chosen false false s e x y w q r v t α β γ z = absurd t

  by-moves : (m : AnimatedTransform) (a : PoseConstants) (time : Float) → Finite p → Moves (AnimatedTransform-interpolate_by m (Pose-transform a m.s0 m.s1) time)
      (cond (is_nan time || not (Point3f-is_finite p)) (Err 6) (AnimatedTransform-moved_point m a time p))
  unfolding AnimatedTransform-interpolate_by AnimatedTransform-moved_point
  by-moves m a time f =
      chosen (is_nan time) (Point3f-is_finite p) (at_start m time) (at_end m time) _ _ _ _ _ _ (finite-test f)
      (judged-moves m.start_transform)
      (judged-moves m.end_transform)
      (λ z. transform-point a m.s0 m.s1 (dt m.start_time m.end_time time) z p f)

  pub rows-moves : (rows : Rows) (time : Float) → Finite p → Moves (Rows-interpolate rows time) (Rows-transform_point rows time p)
  unfolding Rows-interpolate Rows-transform_point
  rows-moves rows time f = by-moves (AnimatedTransform-from_rows rows) (PoseConstants-from_rows rows) time f

pub interpolate-points : (rows : List Rows) (time : Float) → (Moves-interpolate rows time).refusal ≡ 0 → MovesPoints rows time (Moves-interpolate rows time).transform
unfolding Moves-interpolate Moves-transform_point
interpolate-points rows time z p f = go (eqb (length rows) 0) z
  where
    block : Rows
    block = get_or rows (Chain-index_at (Moves-chain rows) time) []

    go : (b : Bool) → (cond b (TransformAnswer-refused 12) (Rows-interpolate block time)).refusal ≡ 0
        → Transform-transform_point (cond b (TransformAnswer-refused 12) (Rows-interpolate block time)).transform p
        ≡ cond b (Err 12) (Rows-transform_point block time p)
    go true h = absurd (omega (arith, h))
    go false h = rows-moves p block time f h

-- The clauses of the query, from its value.
pub chain-clauses : (rows : List Rows) (time : Float) (a : Result Transform Refusal) → TransformAnswer-of_result a ≡ Moves-interpolate rows time
    → ((c : Chain) → rows ≡ Chain-to_rows c → TransformAnswer-of_result a ≡ Chain-interpolate c time) × IfOk a (MovesPoints rows time)
chain-clauses rows time a e = (λ c k. e ∙ chain-interpolate-kept rows c time k, points a e)
  where
    points : (b : Result Transform Refusal) → TransformAnswer-of_result b ≡ Moves-interpolate rows time → IfOk b (MovesPoints rows time)
    points (Err r) same = tt
    points (Ok t) same = subst (λ (x : TransformAnswer). MovesPoints rows time x.transform) (sym same)
        (interpolate-points rows time (ap (λ (x : TransformAnswer). x.refusal) (sym same)))
