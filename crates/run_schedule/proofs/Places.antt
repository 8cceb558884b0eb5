-- Tests and sums over the places below n: what holds of some place, `some-true`, and of none, `some-false`; sums place by place,
-- `sum_same`, `sum_mono`, `sum_less`, `sum-part`, `sum-others`.
use Prim.Native.Nat.{ℕ, zero, suc, ◌+◌, ◌*◌, ◌≤◌, ◌<◌}
use mathlib.Core.Path.{◌≡◌, refl, sym, ap, subst, ◌∙◌}
use mathlib.Core.Bool.{Bool, true, false, ◌||◌, cond}
use mathlib.Core.Logic.{◌⊎◌, inl, inr}
use native.Mathlib.Omega.{arith}
use borrow.Author.Tests.{eqb-true, eqb-false, eq-eqb, ne_eqb}
use lib.Dec.{T, eqb}
use Rattle.run_schedule.specs.Day.{some_below, sum_below}

-- The places below n + 1 are those below n, and n.
pub below_last : (P : ℕ → Type 0) (n i : ℕ) → i < suc n → (i < n → P i) → P n → P i
below_last P n i h lower last = go (eqb i n) (eqb-true i n) (eqb-false i n)
  where
    go : (b : Bool) → (b ≡ true → i ≡ n) → (b ≡ false → i ≡ n → ⊥) → P i
    go true f g = subst P (sym (f refl)) last
    go false f g = lower (omega (arith, h, g refl))

-- ---- tests
pub both_false : (s t : Bool) → (s || t) ≡ false → (s ≡ false) × (t ≡ false)
both_false false false e = (refl, refl)
both_false false true e = (refl, e)
both_false true t e = (e, absurd (subst T e tt))

either_true : (s t : Bool) → (s || t) ≡ true → (s ≡ true) ⊎ (t ≡ true)
either_true true t e = inl refl
either_true false t e = inr e

pub some-false : (n : ℕ) (test : ℕ → Bool) → some_below n test ≡ false → (i : ℕ) → i < n → test i ≡ false
unfolding some_below
some-false zero test e i h = absurd (omega (arith, h))
some-false (suc n) test e i h =
    let (l, r) = both_false (some_below n test) (test n) e in
    below_last (λ (j : ℕ). test j ≡ false) n i h (some-false n test l i) r

pub record Some (n : ℕ) (test : ℕ → Bool) : Type 0 where
  pub place : ℕ
  pub below : place < n
  pub holds : test place ≡ true

pub some-true : (n : ℕ) (test : ℕ → Bool) → some_below n test ≡ true → Some n test
unfolding some_below
some-true zero test e = absurd (subst T (sym e) tt)
some-true (suc n) test e = go (some-true n test) (either_true (some_below n test) (test n) e)
  where
    go : (some_below n test ≡ true → Some n test) → (some_below n test ≡ true) ⊎ (test n ≡ true) → Some (suc n) test
    go lower (inl l) = let s = lower l in record { place = s.place; below = omega (arith, s.below); holds = s.holds }
    go lower (inr r) = record { place = n; below = omega arith; holds = r }

pub some-here : (n : ℕ) (test : ℕ → Bool) (i : ℕ) → i < n → test i ≡ true → some_below n test ≡ true
some-here n test i h e = go (some_below n test) (some-false n test)
  where
    go : (b : Bool) → (b ≡ false → (j : ℕ) → j < n → test j ≡ false) → b ≡ true
    go true f = refl
    go false f = sym (f refl i h) ∙ e

pub some-none : (n : ℕ) (test : ℕ → Bool) → ((i : ℕ) → i < n → test i ≡ false) → some_below n test ≡ false
unfolding some_below
some-none zero test f = refl
some-none (suc n) test f = rw (some-none n test (λ i h. f i (omega (arith, h)))) (f n (omega arith))

pub some_same : (n : ℕ) (test other : ℕ → Bool) → ((i : ℕ) → i < n → test i ≡ other i) → some_below n test ≡ some_below n other
unfolding some_below
some_same zero test other f = refl
some_same (suc n) test other f = rw (some_same n test other (λ i h. f i (omega (arith, h))), f n (omega arith))

-- ---- sums
pub sum_same : (n : ℕ) (f g : ℕ → ℕ) → ((i : ℕ) → i < n → f i ≡ g i) → sum_below n f ≡ sum_below n g
unfolding sum_below
sum_same zero f g e = refl
sum_same (suc n) f g e = rw (sum_same n f g (λ i h. e i (omega (arith, h))), e n (omega arith))

pub sum_mono : (n : ℕ) (f g : ℕ → ℕ) → ((i : ℕ) → i < n → f i ≤ g i) → sum_below n f ≤ sum_below n g
unfolding sum_below
sum_mono zero f g e = omega arith
sum_mono (suc n) f g e = omega (arith, sum_mono n f g (λ i h. e i (omega (arith, h))), e n (omega arith))

pub sum_less : (n : ℕ) (f g : ℕ → ℕ) → ((i : ℕ) → i < n → f i ≤ g i) → (i : ℕ) → i < n → f i < g i → sum_below n f < sum_below n g
unfolding sum_below
sum_less zero f g e i h l = absurd (omega (arith, h))
sum_less (suc n) f g e i h l = go (λ k. sum_less n f g (λ j m. e j (omega (arith, m))) i k l) (eqb i n) (eqb-true i n) (eqb-false i n)
  where
    go : (i < n → sum_below n f < sum_below n g) → (b : Bool) → (b ≡ true → i ≡ n) → (b ≡ false → i ≡ n → ⊥) → sum_below n f + f n < sum_below n g + g n
    go lower true p q = omega (arith, sum_mono n f g (λ j m. e j (omega (arith, m))), subst (λ (j : ℕ). f j < g j) (p refl) l)
    go lower false p q = omega (arith, lower (omega (arith, h, q refl)), e n (omega arith))

pub sum-part : (n : ℕ) (f : ℕ → ℕ) (i : ℕ) → i < n → f i ≤ sum_below n f
unfolding sum_below
sum-part zero f i h = absurd (omega (arith, h))
sum-part (suc n) f i h = below_last (λ (j : ℕ). f j ≤ sum_below n f + f n) n i h (λ k. omega (arith, sum-part n f i k)) (omega arith)

pub sum-at-most : (n c : ℕ) (f : ℕ → ℕ) → ((i : ℕ) → i < n → f i ≤ c) → sum_below n f ≤ n * c
unfolding sum_below
sum-at-most zero c f h = omega arith
sum-at-most (suc n) c f h = omega (arith, sum-at-most n c f (λ i k. h i (omega (arith, k))), h n (omega arith))

-- A sum is that of the other places, and the value at i.
pub sum-others : (n : ℕ) (f : ℕ → ℕ) (i : ℕ) → i < n → sum_below n (λ j. cond (eqb j i) 0 (f j)) + f i ≡ sum_below n f
unfolding sum_below
sum-others zero f i h = absurd (omega (arith, h))
sum-others (suc n) f i h = go (λ k. sum-others n f i k) (eqb n i) (eqb-true n i) (eqb-false n i)
  where
    go : (i < n → sum_below n (λ j. cond (eqb j i) 0 (f j)) + f i ≡ sum_below n f)
        → (b : Bool) → (b ≡ true → n ≡ i) → (b ≡ false → n ≡ i → ⊥)
        → sum_below n (λ j. cond (eqb j i) 0 (f j)) + cond b 0 (f n) + f i ≡ sum_below n f + f n
    go lower true p q =
        let same = sum_same n (λ j. cond (eqb j i) 0 (f j)) f (λ j k. rw (ne_eqb j i (λ d. absurd (omega (arith, k, d, p refl))))) in
        rw (same, ← p refl) (omega arith)
    go lower false p q = omega (arith, lower (omega (arith, h, q refl)))
