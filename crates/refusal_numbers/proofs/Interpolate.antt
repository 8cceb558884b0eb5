-- The transform of a move, of a chain and of kept rows is answered or refused with 4, 5, 6 or, of no moves, 12; what a kept chain holds with 12 or 19.
use Prim.Native.Nat.{ℕ}
use mathlib.Core.Path.{◌≡◌, refl}
use mathlib.Core.Logic.{inl, inr}
use mathlib.Core.List.{List, [], ◌∷◌}
use lib.Dec.{eqb, ltb}
use lib.ListN.{length, get_or}
use lib.Ieee.{Float}
use Rattle.run_schedule.proofs.control_flow.Choice.{cond-keeps}
use Rattle.run_schedule.specs.matrix4x4.Rows.{Rows}
use Rattle.run_schedule.specs.transform.Answer.{OneOf}
use Rattle.run_schedule.specs.transform.Transform.{TransformAnswer-refused}
use Rattle.motion_bounds_laws.specs.animated_transform.declared.AnimatedTransform.{AnimatedTransform}
use Rattle.interpolate_kept.specs.interpolation.Interpolate.{AnimatedTransform-interpolate}
use Rattle.interpolate_kept.specs.interpolation.Promise.{InterpolationNumber}
use Rattle.interpolate_kept.proofs.interpolation.Numbers.{interpolate-refusal, interpolate-refused}
use Rattle.refused_run.specs.motion_chain.Chain.{Chain, Chain-move_at}
use Rattle.refused_run.specs.motion_chain.MoveAt.{Chain-index_at}
use Rattle.interpolate_kept.specs.chain_rows.Kept.{Moves-chain}
use Rattle.interpolate_kept.specs.Kept.{Rows-interpolate, Chain-interpolate, Moves-interpolate}
use Rattle.interpolate_kept.proofs.Kept.{rows-interpolate-refusal, rows-interpolate-refused}
use Rattle.chain_held.specs.declared.ChainHeld.{ChainHeld}
use Rattle.chain_held.specs.Held.{Chain-held, Moves-held, Moves-pose_refusal}
use Rattle.refusal_numbers.specs.Numbers.{TransformAnswer-Numbered}

one_of : {n : ℕ} (more : List ℕ) → InterpolationNumber n → OneOf n (0 ∷ 4 ∷ 5 ∷ 6 ∷ more)
one_of more (inl e) = inl e
one_of more (inr (inl e)) = inr (inl e)
one_of more (inr (inr (inl e))) = inr (inr (inl e))
one_of more (inr (inr (inr e))) = inr (inr (inr (inl e)))

pub interpolate-numbered : (m : AnimatedTransform) (time : Float) → TransformAnswer-Numbered (0 ∷ 4 ∷ 5 ∷ 6 ∷ []) (AnimatedTransform-interpolate m time)
interpolate-numbered m time = record { number = one_of [] (interpolate-refusal m time); refused = interpolate-refused m time }

pub rows-interpolate-numbered : (more : List ℕ) (rows : Rows) (time : Float) → TransformAnswer-Numbered (0 ∷ 4 ∷ 5 ∷ 6 ∷ more) (Rows-interpolate rows time)
rows-interpolate-numbered more rows time = record { number = one_of more (rows-interpolate-refusal rows time); refused = rows-interpolate-refused rows time }

pub chain-interpolate-numbered : (c : Chain) (time : Float) → TransformAnswer-Numbered (0 ∷ 4 ∷ 5 ∷ 6 ∷ []) (Chain-interpolate c time)
unfolding Chain-interpolate
chain-interpolate-numbered c time = interpolate-numbered (Chain-move_at c time) time

pub kept-interpolate-numbered : (rows : List Rows) (time : Float) → TransformAnswer-Numbered (0 ∷ 4 ∷ 5 ∷ 6 ∷ 12 ∷ []) (Moves-interpolate rows time)
unfolding Moves-interpolate
kept-interpolate-numbered rows time =
    cond-keeps (TransformAnswer-Numbered (0 ∷ 4 ∷ 5 ∷ 6 ∷ 12 ∷ [])) (eqb (length rows) 0) (TransformAnswer-refused 12) _
    (record { number = inr (inr (inr (inr (inl refl)))); refused = λ _. refl })
    (rows-interpolate-numbered (12 ∷ []) (get_or rows (Chain-index_at (Moves-chain rows) time) []) time)

-- ---- what a kept chain holds
pub held_number : (rows : List Rows) → OneOf (Moves-held rows).refusal (0 ∷ 12 ∷ [])
unfolding Moves-held Chain-held
held_number rows = cond-keeps (λ (h : ChainHeld). OneOf h.refusal (0 ∷ 12 ∷ [])) (eqb (length rows) 0) _ _ (inr (inl refl)) (inl refl)

pub pose-number : (rows : List Rows) (place : ℕ) → OneOf (Moves-pose_refusal rows place) (0 ∷ 12 ∷ 19 ∷ [])
pose-number rows place =
    cond-keeps (λ (n : ℕ). OneOf n (0 ∷ 12 ∷ 19 ∷ [])) (eqb (length rows) 0) 12 _ (inr (inl refl))
    (cond-keeps (λ (n : ℕ). OneOf n (0 ∷ 12 ∷ 19 ∷ [])) (ltb (length rows) place) 19 0 (inr (inr (inl refl))) (inl refl))
