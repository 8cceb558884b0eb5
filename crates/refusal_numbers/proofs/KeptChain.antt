-- The queries of a kept chain, whatever its rows, give the chain's numbers, and 12 where there are no moves:
-- `rows-point-numbered`, `rows-points-numbered`, `rows-cover-numbered`.
use Rattle.std.specs.Prelude.{Err}
use Prim.Native.Nat.{ℕ}
use mathlib.Core.Path.{◌≡◌, refl}
use mathlib.Core.Bool.{Bool, true, false, cond}
use mathlib.Core.Logic.{inl, inr}
use mathlib.Core.List.{List, [], ◌∷◌}
use native.Mathlib.Omega.{arith}
use borrow.Author.Tests.{eqb-false}
use lib.Dec.{eqb}
use lib.ListN.{length, get_or}
use lib.Ieee.{Float}
use Rattle.run_schedule.proofs.control_flow.Choice.{cond-keeps}
use Rattle.run_schedule.specs.matrix4x4.Rows.{Rows}
use Rattle.run_schedule.specs.bounds3.declared.Point3f.{Point3f}
use Rattle.run_schedule.specs.bounds3.declared.Bounds3f.{Bounds3f}
use Rattle.run_schedule.specs.transform.declared.BoundsAnswer.TheVariants as bounds
use Rattle.run_schedule.specs.transform.Answer.{PointAnswer, OneOf, PointAnswer-refusal, BoundsAnswer-refusal}
use Rattle.run_schedule.proofs.transform.Answer.{one-of-more, one-of-wider}
use Rattle.motion_bounds_laws.specs.motion_point.Answer.{PointAnswer-Numbered}
use Rattle.refused_run.specs.motion_cover.Answer.{BoundsAnswer-Numbered}
use Rattle.interpolate_kept.specs.motion_rows.TransformPoint.{Rows-transform_point}
use Rattle.refused_run.specs.motion_chain.Chain.{Chain-cover}
use Rattle.refused_run.specs.motion_chain.MoveAt.{Chain-index_at}
use Rattle.refused_run.specs.motion_chain.Times.{PointsAnswer, refused, list_refusal, points_at}
use Rattle.refused_run.specs.motion_chain.TimesAnswer.{PointsAnswer-Numbered}
use Rattle.refused_run.proofs.motion_chain.Numbers.{chain-cover-numbered}
use Rattle.refused_run.proofs.motion_chain.Times.{cons-numbered, times-numbers}
use Rattle.interpolate_kept.specs.chain_rows.Kept.{Moves-chain, Moves-transform_point, Moves-transform_points, Moves-cover}
use Rattle.refusal_numbers.proofs.Numbers.{every-answer}

-- ---- at a time
pub rows-point-numbered : (rows : List Rows) (time : Float) (p : Point3f) → PointAnswer-Numbered (0 ∷ 5 ∷ 6 ∷ 12 ∷ []) (Moves-transform_point rows time p)
unfolding Moves-transform_point
rows-point-numbered rows time p =
    let a = Rows-transform_point (get_or rows (Chain-index_at (Moves-chain rows) time) []) time p in
    let h = every-answer.rows-point (get_or rows (Chain-index_at (Moves-chain rows) time) []) time p in
    cond-keeps (PointAnswer-Numbered (0 ∷ 5 ∷ 6 ∷ 12 ∷ [])) (eqb (length rows) 0) (Err 12) a
    (record { number = inr (inr (inr (inl refl))); none = λ e. absurd (omega (arith, e)) })
    (record { number = one-of-more (PointAnswer-refusal a) (0 ∷ 5 ∷ 6 ∷ []) (12 ∷ []) h.number; none = h.none })

-- ---- at a list of times
points-numbered : (numbers : List ℕ) (query : Float → PointAnswer) → OneOf 0 numbers → ((t : Float) → PointAnswer-Numbered numbers (query t))
    → (times : List Float) → PointsAnswer-Numbered numbers (points_at query times)
unfolding points_at
points-numbered numbers query z h [] = record { number = z; none = λ _. refl }
points-numbered numbers query z h (t ∷ times) = cons-numbered numbers (query t) (points_at query times) (h t) (points-numbered numbers query z h times)

abbrev numbers : List ℕ
numbers = 0 ∷ 5 ∷ 6 ∷ 12 ∷ 13 ∷ []

pub rows-points-numbered : (rows : List Rows) (times : List Float) (p : Point3f) (places : ℕ)
    → PointsAnswer-Numbered numbers (Moves-transform_points rows times p places)
unfolding Moves-transform_points
rows-points-numbered rows times p places =
    cond-keeps (PointsAnswer-Numbered numbers) (eqb (length rows) 0) (refused 12) _
    (record { number = inr (inr (inr (inl refl))); none = λ e. absurd (omega (arith, e)) })
    (judged (list_refusal times p places) (times-numbers (Moves-chain rows) times p places).judging)
  where
    query : Float → PointAnswer
    query t = Moves-transform_point rows t p

    worked : PointsAnswer-Numbered numbers (points_at query times)
    worked =
        points-numbered numbers query (inl refl)
        (λ t. let h = rows-point-numbered rows t p in
        record { number = one-of-more (PointAnswer-refusal (query t)) (0 ∷ 5 ∷ 6 ∷ 12 ∷ []) (13 ∷ []) h.number; none = h.none })
        times

    judged : (n : ℕ) → OneOf n (0 ∷ 6 ∷ 13 ∷ []) → PointsAnswer-Numbered numbers (cond (eqb n 0) (points_at query times) (refused n))
    judged n o = go (eqb n 0) (eqb-false n 0)
      where
        go : (b : Bool) → (b ≡ false → n ≡ 0 → ⊥) → PointsAnswer-Numbered numbers (cond b (points_at query times) (refused n))
        go true f = worked
        go false f = record { number = one-of-wider n (0 ∷ 6 ∷ 13 ∷ []) numbers tt o; none = λ e. absurd (f refl e) }

-- ---- a cover
pub rows-cover-numbered : (rows : List Rows) (b : Bounds3f) (depth : ℕ) → BoundsAnswer-Numbered (0 ∷ 5 ∷ 6 ∷ 7 ∷ 8 ∷ 10 ∷ 12 ∷ []) (Moves-cover rows b depth)
unfolding Moves-cover
rows-cover-numbered rows b depth =
    let a = Chain-cover (Moves-chain rows) b depth in
    let h = chain-cover-numbered (Moves-chain rows) b depth in
    cond-keeps (BoundsAnswer-Numbered (0 ∷ 5 ∷ 6 ∷ 7 ∷ 8 ∷ 10 ∷ 12 ∷ [])) (eqb (length rows) 0) (bounds.Refused 12) a
    (record { number = inr (inr (inr (inr (inr (inr (inl refl)))))); none = λ e. absurd (omega (arith, e)) })
    (record { number = one-of-more (BoundsAnswer-refusal a) (0 ∷ 5 ∷ 6 ∷ 7 ∷ 8 ∷ 10 ∷ []) (12 ∷ []) h.number; none = h.none })
