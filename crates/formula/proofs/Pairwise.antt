-- Lists of which each element stands in a relation to its counterpart: `pairwise-length`, `pairwise-get_d`, `pairwise_append`. All hold of any relation.
use mathlib.Core.Path.{◌≡◌, refl, ap}
use Prim.Native.Nat.{ℕ, zero, suc, ◌<◌}
use native.Mathlib.Nat.{le_of_suc-le-suc, not-suc-le-zero}
use mathlib.Core.List.{List, [], ◌∷◌, ◌++◌}
use lib.ListN.{length, get_or}
use Rattle.formula.specs.Promise.{Pairwise}

module _ {A B : Type 0} (R : A → B → Type 0) where
  pub pairwise-length : (xs : List A) (ys : List B) → Pairwise R xs ys → length xs ≡ length ys
  pairwise-length [] [] a = refl
  pairwise-length [] (y ∷ ys) a = absurd a
  pairwise-length (x ∷ xs) [] a = absurd a
  pairwise-length (x ∷ xs) (y ∷ ys) a = ap suc (pairwise-length xs ys a.1)

  pub pairwise-get_d : (xs : List A) (ys : List B) (d : A) (e : B) (i : ℕ) → i < length xs → Pairwise R xs ys → R (get_or xs i d) (get_or ys i e)
  pairwise-get_d [] ys d e i h a = absurd (not-suc-le-zero h)
  pairwise-get_d (x ∷ xs) [] d e i h a = absurd a
  pairwise-get_d (x ∷ xs) (y ∷ ys) d e zero h a = a.0
  pairwise-get_d (x ∷ xs) (y ∷ ys) d e (suc i) h a = pairwise-get_d xs ys d e i (le_of_suc-le-suc h) a.1

  pub pairwise_append : (xs xs' : List A) (ys ys' : List B) → Pairwise R xs ys → Pairwise R xs' ys' → Pairwise R (xs ++ xs') (ys ++ ys')
  pairwise_append [] xs' [] ys' a b = b
  pairwise_append [] xs' (y ∷ ys) ys' a b = absurd a
  pairwise_append (x ∷ xs) xs' [] ys' a b = absurd a
  pairwise_append (x ∷ xs) xs' (y ∷ ys) ys' a b = (a.0, pairwise_append xs xs' ys ys' a.1 b)
