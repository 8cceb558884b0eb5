-- The numbers that the set query of any rows can give, 12 among them: `kept-set-numbered`.
use Prim.Native.Nat.{ℕ}
use mathlib.Core.Path.{refl}
use mathlib.Core.Bool.{Bool, true, false, cond}
use mathlib.Core.Logic.{inl, inr}
use mathlib.Core.List.{List, [], ◌∷◌, map}
use native.Mathlib.Omega.{arith}
use lib.Dec.{eqb}
use lib.ListN.{length}
use lib.Ieee.{Float}
use Rattle.lent_arrays.specs.matrix4x4.Rows.{Rows}
use Rattle.bounds3.specs.List.{Bounds3f-of_list}
use Rattle.lent_arrays.proofs.transform.Answer.{one-of-wider}
use Rattle.chain_fronts.specs.chain_rows.Kept.{Moves-chain}
use Rattle.box_set.specs.Set.{refused, Chain-covers}
use Rattle.box_set.specs.Theorem.{SetAnswer-Numbered}
use Rattle.box_set.proofs.Contains.{chain-set-numbered}
use Rattle.chain_covers.specs.Kept.{Moves-covers}

abbrev numbers : List ℕ
numbers = 0 ∷ 5 ∷ 6 ∷ 7 ∷ 8 ∷ 10 ∷ 12 ∷ 14 ∷ []

pub kept-set-numbered : (rows : List Rows) (boxes : List (List Float)) (depth : ℕ)
    → SetAnswer-Numbered (0 ∷ 5 ∷ 6 ∷ 7 ∷ 8 ∷ 10 ∷ 12 ∷ 14 ∷ []) (Moves-covers rows boxes depth)
unfolding Moves-covers
kept-set-numbered rows boxes depth = go (eqb (length rows) 0)
  where
    go : (t : Bool) → SetAnswer-Numbered numbers (cond t (refused 12) (Chain-covers (Moves-chain rows) (map Bounds3f-of_list boxes) depth))
    go true = record { number = inr (inr (inr (inr (inr (inr (inl refl)))))); none = λ e. absurd (omega (arith, e)) }
    go false =
        let k = chain-set-numbered (Moves-chain rows) (map Bounds3f-of_list boxes) depth in
        record { number = one-of-wider _ (0 ∷ 5 ∷ 6 ∷ 7 ∷ 8 ∷ 10 ∷ 14 ∷ []) numbers tt k.number; none = k.none }
