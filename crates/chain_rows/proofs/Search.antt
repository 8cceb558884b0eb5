-- The place of the move that a time belongs to, as a loop finds it: `place_here`, `place-next`, `place-last`.
use Prim.Native.Nat.{ℕ, zero, suc, ◌+◌, ◌<◌}
use mathlib.Core.Path.{◌≡◌, refl}
use mathlib.Core.Bool.{true, false, cond}
use mathlib.Core.List.{List, [], ◌∷◌}
use native.Mathlib.Omega.{arith}
use lib.ListN.{length, get_or, drop}
use lib.Ieee.{Float, le}
use Rattle.transform.specs.matrix4x4.Rows.{Rows, at}
use Rattle.motion_rows.specs.Rows.{AnimatedTransform-from_rows}
use Rattle.motion_chain.specs.MoveAt.{index_from, Chain-index_at}
use Rattle.chain_rows.specs.Kept.{Moves-chain}

abbrev pub end_time : List Rows → ℕ → Float
end_time rows i = at (get_or rows i []) 17 3

module _ (time : Float) where
  -- The place among the rows from i on.
  abbrev pub place_from : List Rows → ℕ → ℕ
  place_from rows i = Chain-index_at (Moves-chain (drop i rows)) time

  place-step : (rows : List Rows) (i : ℕ) → suc i < length rows → place_from rows i ≡ cond (le time (end_time rows i)) 0 (suc (place_from rows (suc i)))
  unfolding Moves-chain AnimatedTransform-from_rows index_from
  place-step [] i h = absurd (omega (arith, h))
  place-step (m ∷ []) i h = absurd (omega (arith, h))
  place-step (m ∷ next ∷ rows) zero h = refl
  place-step (m ∷ next ∷ rows) (suc i) h = place-step (next ∷ rows) i (omega (arith, h))

  pub place_here : (rows : List Rows) (i : ℕ) → suc i < length rows → le time (end_time rows i) ≡ true → i + place_from rows i ≡ i
  place_here rows i h e = let k : place_from rows i ≡ 0 = rw (place-step rows i h, e) in omega (arith, k)

  pub place-next : (rows : List Rows) (i : ℕ) → suc i < length rows → le time (end_time rows i) ≡ false → i + place_from rows i ≡ i + 1 + place_from rows (i + 1)
  place-next rows i h e =
      let k : place_from rows i ≡ suc (place_from rows (suc i)) = rw (place-step rows i h, e) in
      let n : i + 1 ≡ suc i = omega arith in
      rw n (omega (arith, k))

  pub place-last : (rows : List Rows) (i : ℕ) → suc i ≡ length rows → i + place_from rows i ≡ i
  unfolding Moves-chain index_from
  place-last [] i h = absurd (omega (arith, h))
  place-last (m ∷ []) zero h = refl
  place-last (m ∷ []) (suc i) h = absurd (omega (arith, h))
  place-last (m ∷ next ∷ rows) zero h = absurd (omega (arith, h))
  place-last (m ∷ next ∷ rows) (suc i) h = let k = place-last (next ∷ rows) i (omega (arith, h)) in omega (arith, k)
