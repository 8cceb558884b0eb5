-- The numbers of the pad query, of a move, `pad-numbered`, of a chain, `chain-pad-numbered`, and of what is kept of either, whatever the rows:
-- `rows-pad-numbered`, `kept-pad-numbered`.
use Rattle.std.specs.Prelude.{Ok, Err}
use mathlib.Core.Path.{refl}
use mathlib.Core.Logic.{inl, inr}
use mathlib.Core.List.{List, [], ◌∷◌}
use native.Mathlib.Omega.{arith}
use lib.Dec.{eqb}
use lib.ListN.{length, get_or}
use lib.Ieee.{Float, is_nan}
use lib.Ieee.Scale.{finite}
use Rattle.run_schedule.proofs.control_flow.Choice.{cond-keeps}
use Rattle.run_schedule.specs.matrix4x4.Rows.{Rows}
use Rattle.run_schedule.proofs.transform.Answer.{one-of-more}
use Rattle.motion_bounds_laws.specs.animated_transform.declared.AnimatedTransform.{AnimatedTransform}
use Rattle.motion_bounds_laws.specs.motion_point.PadAt.{AnimatedTransform-pad_at}
use Rattle.interpolate_kept.specs.motion_rows.Rows.{AnimatedTransform-from_rows}
use Rattle.interpolate_kept.specs.pad_query.PadQuery.{PadAnswer-judged, PadAnswer-refusal, AnimatedTransform-pad, Rows-pad}
use Rattle.refused_run.specs.motion_chain.Chain.{Chain, Chain-move_at}
use Rattle.refused_run.specs.motion_chain.MoveAt.{Chain-index_at}
use Rattle.interpolate_kept.specs.chain_rows.Kept.{Moves-chain, Chain-pad, Moves-pad}
use Rattle.refusal_numbers.specs.Numbers.{PadAnswer-Numbered}

judged-numbered : (pad : Float) → PadAnswer-Numbered (0 ∷ 5 ∷ 6 ∷ []) (PadAnswer-judged pad)
unfolding PadAnswer-judged
judged-numbered pad =
    cond-keeps (PadAnswer-Numbered (0 ∷ 5 ∷ 6 ∷ [])) (finite pad) (Ok pad) (Err 5)
    (record { number = inl refl; none = λ _. refl })
    (record { number = inr (inl refl); none = λ e. absurd (omega (arith, e)) })

pub pad-numbered : (m : AnimatedTransform) (time : Float) → PadAnswer-Numbered (0 ∷ 5 ∷ 6 ∷ []) (AnimatedTransform-pad m time)
unfolding AnimatedTransform-pad
pad-numbered m time =
    cond-keeps (PadAnswer-Numbered (0 ∷ 5 ∷ 6 ∷ [])) (is_nan time) (Err 6) _
    (record { number = inr (inr (inl refl)); none = λ e. absurd (omega (arith, e)) })
    (judged-numbered (AnimatedTransform-pad_at m time))

pub rows-pad-numbered : (rows : Rows) (time : Float) → PadAnswer-Numbered (0 ∷ 5 ∷ 6 ∷ []) (Rows-pad rows time)
unfolding Rows-pad
rows-pad-numbered rows = pad-numbered (AnimatedTransform-from_rows rows)

pub chain-pad-numbered : (c : Chain) (time : Float) → PadAnswer-Numbered (0 ∷ 5 ∷ 6 ∷ []) (Chain-pad c time)
unfolding Chain-pad
chain-pad-numbered c time = pad-numbered (Chain-move_at c time) time

pub kept-pad-numbered : (rows : List Rows) (time : Float) → PadAnswer-Numbered (0 ∷ 5 ∷ 6 ∷ 12 ∷ []) (Moves-pad rows time)
unfolding Moves-pad
kept-pad-numbered rows time =
    let a = Rows-pad (get_or rows (Chain-index_at (Moves-chain rows) time) []) time in
    let h = rows-pad-numbered (get_or rows (Chain-index_at (Moves-chain rows) time) []) time in
    cond-keeps (PadAnswer-Numbered (0 ∷ 5 ∷ 6 ∷ 12 ∷ [])) (eqb (length rows) 0) (Err 12) a
    (record { number = inr (inr (inr (inl refl))); none = λ e. absurd (omega (arith, e)) })
    (record { number = one-of-more (PadAnswer-refusal a) (0 ∷ 5 ∷ 6 ∷ []) (12 ∷ []) h.number; none = h.none })
