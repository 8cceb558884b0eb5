-- The numbers that the query of any rows can give, 12 among them: `kept-reach-number`.
use Prim.Native.Nat.{ℕ}
use mathlib.Core.Logic.{inl, inr}
use mathlib.Core.Path.{refl}
use mathlib.Core.List.{List, [], ◌∷◌}
use lib.Dec.{eqb}
use lib.ListN.{length}
use lib.Ieee.{Float}
use Rattle.tick_list.proofs.control_flow.Choice.{cond-keeps}
use Rattle.bounds_query.specs.matrix4x4.Rows.{Rows}
use Rattle.bounds_query.specs.bounds3.declared.Bounds3f.{Bounds3f}
use Rattle.bounds_query.specs.transform.Answer.{OneOf}
use Rattle.bounds_query.proofs.transform.Answer.{one-of-wider}
use Rattle.reached_rows.specs.chain_rows.Kept.{Moves-chain}
use Rattle.reach_window.specs.reach_laws.Reach.{Chain-reach_refusal}
use Rattle.reach_window.proofs.reach_laws.Numbers.{reach-numbers}
use Rattle.reach_kept.specs.Kept.{Moves-reach_refusal}

abbrev numbers : List ℕ
numbers = 0 ∷ 5 ∷ 6 ∷ 7 ∷ 8 ∷ 10 ∷ 12 ∷ 14 ∷ 21 ∷ []

pub kept-reach-number : (moves : List Rows) (boxes : List Bounds3f) (depth : ℕ) (ticks : List Float) (rows : List Bounds3f)
    → OneOf (Moves-reach_refusal moves boxes depth ticks rows) (0 ∷ 5 ∷ 6 ∷ 7 ∷ 8 ∷ 10 ∷ 12 ∷ 14 ∷ 21 ∷ [])
unfolding Moves-reach_refusal
kept-reach-number moves boxes depth ticks rows =
    cond-keeps (λ n. OneOf n numbers) (eqb (length moves) 0) 12 (Chain-reach_refusal (Moves-chain moves) boxes depth ticks rows)
    (inr (inr (inr (inr (inr (inr (inl refl)))))))
    (one-of-wider _ (0 ∷ 5 ∷ 6 ∷ 7 ∷ 8 ∷ 10 ∷ 14 ∷ 21 ∷ []) numbers tt (reach-numbers (Moves-chain moves) boxes depth ticks rows))
