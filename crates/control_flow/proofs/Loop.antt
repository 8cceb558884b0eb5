-- The rules of a loop's invariant `s ≡ loop body k s₀`: it holds at the start (`loop-start`), after one more turn (`loop-next`) and,
-- as the loop ends, for all turns (`loop-end`). What the body keeps, the loop keeps: `loop-keeps`.
use mathlib.Core.Path.{◌≡◌, refl}
use Prim.Native.Nat.{ℕ, zero, suc, ◌+◌, ◌<◌}
use native.Mathlib.Numerals.{add-one}
use native.Mathlib.Omega.{arith}
use Rattle.control_flow.specs.Loop.{loop}

module _ {S : Type 0} (body : ℕ → S → S) (s₀ : S) where
  pub loop-start : s₀ ≡ loop body 0 s₀
  unfolding loop
  loop-start = refl

  pub loop-next : (k : ℕ) (s t : S) → s ≡ loop body k s₀ → t ≡ body k s → t ≡ loop body (k + 1) s₀
  unfolding loop
  loop-next k s t e f = rw (add-one k, ← e, f)

  pub loop-end : (n k : ℕ) (s : S) → k ≡ n → s ≡ loop body k s₀ → s ≡ loop body n s₀
  loop-end n k s e f = rw e at f

pub loop-keeps : {S : Type 0} (P : ℕ → S → Type 0) (body : ℕ → S → S) (n : ℕ)
    → ((k : ℕ) (s : S) → k < n → P k s → P (suc k) (body k s))
    → (s : S) → P 0 s → P n (loop body n s)
unfolding loop
loop-keeps P body zero step s h = h
loop-keeps P body (suc n) step s h =
    step n (loop body n s) (omega arith) (loop-keeps P body n (λ k t l. step k t (omega arith)) s h)
