-- A test of a list by a test of its neighbours, as a loop makes it, i being the place of the later one: it fails where a test does (`fails-here`), passes on
-- where the test holds (`holds-next`) and holds at the end (`holds-end`).
use Prim.Native.Nat.{ℕ, zero, suc, ◌+◌, ◌-◌, ◌≤◌, ◌<◌}
use mathlib.Core.Path.{◌≡◌, refl}
use mathlib.Core.Bool.{Bool, true, false, ◌&&◌}
use mathlib.Core.List.{List, [], ◌∷◌}
use native.Mathlib.Omega.{arith}
use lib.ListN.{length, get_or, drop}

pub record EachNext {A : Type 0} (test : A → A → Bool) (all : List A → Bool) : Type 0 where
  pub none : all [] ≡ true
  pub single : (x : A) → all (x ∷ []) ≡ true
  pub more : (x y : A) (l : List A) → all (x ∷ y ∷ l) ≡ (test x y && all (y ∷ l))

module _ {A : Type 0} {test : A → A → Bool} {all : List A → Bool} (each : EachNext test all) (none : A) where
  all-at : (l : List A) (i : ℕ) → suc i < length l → all (drop i l) ≡ (test (get_or l i none) (get_or l (suc i) none) && all (drop (suc i) l))
  all-at [] i h = absurd (omega (arith, h))
  all-at (x ∷ []) i h = absurd (omega (arith, h))
  all-at (x ∷ y ∷ l) zero h = each.more x y l
  all-at (x ∷ y ∷ l) (suc i) h = all-at (y ∷ l) i (omega (arith, h))

  all-few : (l : List A) (i : ℕ) → length l ≤ suc i → all (drop i l) ≡ true
  all-few [] zero h = each.none
  all-few [] (suc i) h = each.none
  all-few (x ∷ []) zero h = each.single x
  all-few (x ∷ []) (suc zero) h = each.none
  all-few (x ∷ []) (suc (suc i)) h = each.none
  all-few (x ∷ y ∷ l) zero h = absurd (omega (arith, h))
  all-few (x ∷ y ∷ l) (suc i) h = all-few (y ∷ l) i (omega (arith, h))

  module _ (l : List A) (i : ℕ) (o : 1 ≤ i) where
    pub fails-here : i < length l → test (get_or l (i - 1) none) (get_or l i none) ≡ false → all (drop (i - 1) l) ≡ false
    fails-here h e = let f : suc (i - 1) ≡ i = omega (arith, o) in rw (all-at l (i - 1) (omega (arith, o, h)), f, e)

    pub holds-next : i < length l → test (get_or l (i - 1) none) (get_or l i none) ≡ true → all (drop (i + 1 - 1) l) ≡ all (drop (i - 1) l)
    holds-next h e =
        let f : suc (i - 1) ≡ i = omega (arith, o) in
        let g : i + 1 - 1 ≡ i = omega arith in
        rw (all-at l (i - 1) (omega (arith, o, h)), f, e, g)

    pub holds-end : length l ≤ i → all (drop (i - 1) l) ≡ true
    holds-end h = all-few l (i - 1) (omega (arith, o, h))
