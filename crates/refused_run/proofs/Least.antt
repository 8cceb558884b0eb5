-- The least number below a bound that passes a test: none below it passes (`least-below`), it passes itself where it is below the bound (`least-passes`),
-- and any that passes is not below it (`least_first`); it is told by these (`least-is`).
use Prim.Native.Nat.{ℕ, zero, suc, ◌≤◌, ◌<◌}
use mathlib.Core.Path.{◌≡◌, refl, ap}
use mathlib.Core.Bool.{Bool, true, false, not, cond}
use native.Mathlib.Omega.{arith}
use lib.Dec.{T}
use Rattle.refused_run.specs.Run.{least}

-- what the first test chooses
abbrev first : Bool → ℕ → ℕ
first b x = cond b zero (suc x)

pub least-below : (test : ℕ → Bool) (bound i : ℕ) → i < least test bound → T (not (test i))
unfolding least
least-below test zero i h = absurd (omega (arith, h))
least-below test (suc bound) zero h = go (test zero) (least (λ j. test (suc j)) bound) h
  where
    go : (b : Bool) (x : ℕ) → zero < first b x → T (not b)
    go true x h = absurd (omega (arith, h))
    go false x h = tt
least-below test (suc bound) (suc i) h = least-below (λ j. test (suc j)) bound i (go (test zero) (least (λ j. test (suc j)) bound) h)
  where
    go : (b : Bool) (x : ℕ) → suc i < first b x → i < x
    go true x h = absurd (omega (arith, h))
    go false x h = omega (arith, h)

pub least-passes : (test : ℕ → Bool) (bound : ℕ) → least test bound < bound → T (test (least test bound))
unfolding least
least-passes test zero h = absurd (omega (arith, h))
least-passes test (suc bound) h =
    go (test zero) (least (λ j. test (suc j)) bound) (λ t. t) (least-passes (λ j. test (suc j)) bound) h
  where
    go : (b : Bool) (x : ℕ) → (T b → T (test zero)) → (x < bound → T (test (suc x))) → first b x < suc bound → T (test (first b x))
    go true x f later h = f tt
    go false x f later h = later (omega (arith, h))

pub least_first : (test : ℕ → Bool) (bound i : ℕ) → i < bound → T (test i) → least test bound ≤ i
unfolding least
least_first test zero i h t = absurd (omega (arith, h))
least_first test (suc bound) zero h t = go (test zero) (least (λ j. test (suc j)) bound) t
  where
    go : (b : Bool) (x : ℕ) → T b → first b x ≤ zero
    go true x t = omega arith
    go false x t = absurd t
least_first test (suc bound) (suc i) h t =
    go (test zero) (least (λ j. test (suc j)) bound) (least_first (λ j. test (suc j)) bound i (omega (arith, h)) t)
  where
    go : (b : Bool) (x : ℕ) → x ≤ i → first b x ≤ suc i
    go true x l = omega arith
    go false x l = omega (arith, l)

pub least-is : (test : ℕ → Bool) (bound i : ℕ) → i ≤ bound → ((j : ℕ) → j < i → T (not (test j))) → (i < bound → T (test i)) → least test bound ≡ i
unfolding least
least-is test zero zero h below passes = refl
least-is test zero (suc i) h below passes = absurd (omega (arith, h))
least-is test (suc bound) zero h below passes = go (test zero) (least (λ j. test (suc j)) bound) (passes (omega arith))
  where
    go : (b : Bool) (x : ℕ) → T b → first b x ≡ zero
    go true x t = refl
    go false x t = absurd t
least-is test (suc bound) (suc i) h below passes =
    go (test zero) (least (λ j. test (suc j)) bound) (below zero (omega arith))
    (least-is (λ j. test (suc j)) bound i (omega (arith, h)) (λ j l. below (suc j) (omega (arith, l))) (λ l. passes (omega (arith, l))))
  where
    go : (b : Bool) (x : ℕ) → T (not b) → x ≡ i → first b x ≡ suc i
    go true x t e = absurd t
    go false x t e = ap suc e
