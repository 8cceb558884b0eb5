-- Laws of answers: one whose number is not 0 is that refusal (`refused-number`). Of listed numbers: one of some is one of more
-- (`one-of-more`, `one-of-cond`), and one of a list whose numbers another has, which is told by computing, is one of that other (`one-of-wider`).
use Prim.Native.Nat.{ℕ}
use mathlib.Core.Path.{◌≡◌, refl}
use mathlib.Core.Bool.{Bool, true, false, ◌&&◌, ◌||◌, cond}
use mathlib.Core.Logic.{inl, inr}
use mathlib.Core.List.{List, [], ◌∷◌, ◌++◌}
use borrow.Author.Tests.{eqb-true}
use lib.Dec.{T, eqb}
use lib.Ieee.Fits.{and_l, and_r}
use Rattle.transform.specs.declared.BoundsAnswer.{BoundsAnswer}
use Rattle.transform.specs.declared.BoundsAnswer.TheVariants.{Bounds, Refused}
use Rattle.transform.specs.Answer.{BoundsAnswer-refusal, OneOf}

pub refused-number : (a : BoundsAnswer) → (BoundsAnswer-refusal a ≡ 0 → ⊥) → a ≡ Refused (BoundsAnswer-refusal a)
refused-number (Bounds b) h = absurd (h refl)
refused-number (Refused n) h = refl

-- ---- listed numbers
pub one-of-more : (n : ℕ) (ns ks : List ℕ) → OneOf n ns → OneOf n (ns ++ ks)
one-of-more n [] ks h = absurd h
one-of-more n (m ∷ ns) ks (inl e) = inl e
one-of-more n (m ∷ ns) ks (inr h) = inr (one-of-more n ns ks h)

pub one-of-cond : (b : Bool) (n k : ℕ) (ks : List ℕ) → OneOf n ks → OneOf n (cond b (k ∷ ks) ks)
one-of-cond true n k ks h = inr h
one-of-cond false n k ks h = h

abbrev pub listed : ℕ → List ℕ → Bool
listed k [] = false
listed k (n ∷ ns) = eqb k n || listed k ns

abbrev pub all_listed : List ℕ → List ℕ → Bool
all_listed [] ks = true
all_listed (n ∷ ns) ks = listed n ks && all_listed ns ks

pub listed-one : (k : ℕ) (ns : List ℕ) → T (listed k ns) → OneOf k ns
listed-one k [] h = absurd h
listed-one k (n ∷ ns) h = go (eqb k n) (eqb-true k n) (listed-one k ns) h
  where
    go : (b : Bool) → (b ≡ true → k ≡ n) → (T (listed k ns) → OneOf k ns) → T (b || listed k ns) → OneOf k (n ∷ ns)
    go true f g t = inl (f refl)
    go false f g t = inr (g t)

pub one-of-wider : (n : ℕ) (ns ks : List ℕ) → T (all_listed ns ks) → OneOf n ns → OneOf n ks
one-of-wider n [] ks h o = absurd o
one-of-wider n (k ∷ ns) ks h (inl e) = rw e (listed-one k ks (and_l (listed k ks) (all_listed ns ks) h))
one-of-wider n (k ∷ ns) ks h (inr o) = one-of-wider n ns ks (and_r (listed k ks) (all_listed ns ks) h) o
