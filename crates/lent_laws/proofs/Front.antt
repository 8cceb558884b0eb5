-- Lent places of which the first are written: one more, `front-next`; as many places as before, `front_length`; what stands in them, `front_at`.
use Prim.Native.Nat.{ℕ, zero, suc, ◌<◌}
use mathlib.Core.Path.{◌≡◌, refl, ap}
use mathlib.Core.List.{List, [], ◌∷◌, ◌++◌}
use native.Mathlib.Omega.{arith}
use lib.ListN.{length, get_or, set}
use Rattle.lent_laws.specs.Front.{in_front}

module _ {A : Type 0} where
  pub front-next : (items old : List A) (x : A) (n : ℕ) → length items ≡ n → set (in_front items old) n x ≡ in_front (items ++ (x ∷ [])) old
  unfolding in_front
  front-next [] [] x n e = refl
  front-next [] (y ∷ old) x zero e = refl
  front-next [] (y ∷ old) x (suc n) e = absurd (omega (arith, e))
  front-next (z ∷ items) old x zero e = absurd (omega (arith, e))
  front-next (z ∷ items) [] x (suc n) e = refl
  front-next (z ∷ items) (y ∷ old) x (suc n) e = ap (λ (l : List A). z ∷ l) (front-next items old x n (omega (arith, e)))

  pub front_length : (items old : List A) → length (in_front items old) ≡ length old
  unfolding in_front
  front_length [] old = refl
  front_length (x ∷ items) [] = refl
  front_length (x ∷ items) (y ∷ old) = ap suc (front_length items old)

  pub front_at : (items old : List A) (x : A) (i : ℕ) → i < length items → i < length old → get_or (in_front items old) i x ≡ get_or items i x
  unfolding in_front
  front_at [] old x i h k = absurd (omega (arith, h))
  front_at (z ∷ items) [] x i h k = absurd (omega (arith, k))
  front_at (z ∷ items) (y ∷ old) x zero h k = refl
  front_at (z ∷ items) (y ∷ old) x (suc i) h k = front_at items old x i (omega (arith, h)) (omega (arith, k))
