-- A turn of the loop in `decompose`, which stands at r after k rounds (`Reached`): its inverse refuses (`inverse-refuses`),
-- its matrix does (`matrix-refuses`), it is the last (`turn_last`), or the loop goes on from its matrix (`turn-next`).
-- Rests on `loop-fixed`: where the body changes nothing, no turn that is left does.
use mathlib.Core.Path.{◌≡◌, refl, ◌∙◌}
use mathlib.Core.Bool.{Bool, true, false, ◌||◌, true≢false, false≢true}
use mathlib.Core.Logic.{⊎_elim}
use Prim.Native.Nat.{ℕ, zero, suc, ◌+◌, ◌≤◌, ◌<◌}
use native.Mathlib.Nat.{eq-or-lt_of_le, le_of_suc-le-suc}
use native.Mathlib.Numerals.{add-one}
use native.Mathlib.Omega.{arith}
use lib.Dec.{leb}
use lib.Ieee.{le}
use borrow.Author.Tests.{leb-true, leb-false, eq-eqb, ne_eqb}
use Rattle.matrix4x4.specs.Rows.{Rows}
use Rattle.matrix4x4.specs.Transpose.{Matrix4x4-transpose}
use Rattle.matrix4x4.specs.IsFinite.{Matrix4x4-is_finite}
use Rattle.matrix_inverse.specs.control_flow.Loop.{loop}
use Rattle.matrix_inverse.specs.Inverse.{InverseAnswer, Matrix4x4-inverse}
use Rattle.polar_round.specs.PolarRound.{linear_part, mean, distance}
use Rattle.decomposition.specs.Polar.{settled_norm, Polar, refused, unsettled, settled, judged_round, polar_round, polar}
use Rattle.decomposition.specs.Decompose.{Decomposition-refused, parts, finish, Matrix4x4-decompose}

loop-fixed : {S : Type 0} (body : ℕ → S → S) (s₀ s : S) → ((k : ℕ) → body k s ≡ s)
    → (i n : ℕ) → i ≤ n → loop body i s₀ ≡ s → loop body n s₀ ≡ s
unfolding loop
loop-fixed body s₀ s f i zero h e = let z : i ≡ 0 = omega arith in rw z at e
loop-fixed body s₀ s f i (suc n) h e =
    ⊎_elim (λ z. rw z at e) (λ l. rw (loop-fixed body s₀ s f i n (le_of_suc-le-suc l) e) (f n)) (eq-or-lt_of_le h)

-- After k rounds on the linear part of m, fewer than 100 and none the last, stands r.
pub record Reached (m : Rows) (k : ℕ) (r : Rows) : Type 0 where
  pub low : k < 100
  pub state : loop polar_round k (unsettled (linear_part m)) ≡ unsettled r

module _ {m : Rows} {k : ℕ} {r : Rows} (reached : Reached m k r) where
  one-round : (s : Polar) → polar_round k (unsettled r) ≡ s → loop polar_round (suc k) (unsettled (linear_part m)) ≡ s
  unfolding loop
  one-round s e = rw reached.state e

  -- the round stands at s, which no round changes
  stays : (rigid : Bool) (s : Polar) → ((n : ℕ) → polar_round n s ≡ s) → polar_round k (unsettled r) ≡ s → Matrix4x4-decompose rigid m ≡ finish rigid m s
  unfolding Matrix4x4-decompose polar
  stays rigid s f e = rw (loop-fixed polar_round (unsettled (linear_part m)) s f (suc k) 100 reached.low (one-round s e))

  module _ (rit : InverseAnswer) (inverted : rit ≡ Matrix4x4-inverse (Matrix4x4-transpose r)) where
    pub inverse-refuses : (rigid : Bool) → (rit.refusal ≡ 0 → ⊥) → Matrix4x4-decompose rigid m ≡ Decomposition-refused rit.refusal
    unfolding polar_round finish
    inverse-refuses rigid n = stays rigid (refused rit.refusal) (λ _. refl) (rw (← inverted, ne_eqb rit.refusal 0 n))

    module _ (ok : rit.refusal ≡ 0) (rnext : Rows) (averaged : rnext ≡ mean r rit.m) where
      rounded : polar_round k (unsettled r) ≡ judged_round r rnext
      unfolding polar_round
      rounded = rw (← inverted, eq-eqb rit.refusal 0 ok, averaged)

      pub matrix-refuses : (rigid : Bool) → Matrix4x4-is_finite rnext ≡ false → Matrix4x4-decompose rigid m ≡ Decomposition-refused 5
      unfolding polar_round finish judged_round
      matrix-refuses rigid f = stays rigid (refused 5) (λ _. refl) (rounded ∙ rw f)

      module _ (finite : Matrix4x4-is_finite rnext ≡ true) where
        near : (rigid : Bool) → le (distance r rnext) settled_norm ≡ true → Matrix4x4-decompose rigid m ≡ parts rigid m rnext
        unfolding polar_round finish judged_round
        near rigid n = stays rigid (settled rnext) (λ _. refl) (rounded ∙ rw (finite, n))

        far : le (distance r rnext) settled_norm ≡ false → loop polar_round (suc k) (unsettled (linear_part m)) ≡ unsettled rnext
        unfolding judged_round
        far n = one-round (unsettled rnext) (rounded ∙ rw (finite, n))

        full : (rigid : Bool) → 100 ≤ k + 1 → le (distance r rnext) settled_norm ≡ false → Matrix4x4-decompose rigid m ≡ parts rigid m rnext
        unfolding Matrix4x4-decompose polar finish
        full rigid h n = let e : suc k ≡ 100 = omega arith in rw (rw e at (far n))

        pub turn_last : (rigid : Bool) → (leb 100 (k + 1) || le (distance r rnext) settled_norm) ≡ true → Matrix4x4-decompose rigid m ≡ parts rigid m rnext
        turn_last rigid = go (leb 100 (k + 1)) (le (distance r rnext) settled_norm) refl refl
          where
            go : (a b : Bool) → leb 100 (k + 1) ≡ a → le (distance r rnext) settled_norm ≡ b
                → (a || b) ≡ true → Matrix4x4-decompose rigid m ≡ parts rigid m rnext
            go a true ea eb h = near rigid eb
            go true false ea eb h = full rigid (leb-true 100 (k + 1) ea) eb
            go false false ea eb h = absurd (false≢true h)

        pub turn-next : (leb 100 (k + 1) || le (distance r rnext) settled_norm) ≡ false
            → Reached m (k + 1) rnext
        turn-next = go (leb 100 (k + 1)) (le (distance r rnext) settled_norm) refl refl
          where
            go : (a b : Bool) → leb 100 (k + 1) ≡ a → le (distance r rnext) settled_norm ≡ b → (a || b) ≡ false
                → Reached m (k + 1) rnext
            go true b ea eb h = absurd (true≢false h)
            go false true ea eb h = absurd (true≢false h)
            go false false ea eb h = record { low = leb-false 100 (k + 1) ea; state = rw add-one (far eb) }
