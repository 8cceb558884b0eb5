-- The clauses of `search`, as laws over any depth: `search-excluded`, `search-newton`, `search-ends`, `search-halves`.
use mathlib.Core.Path.{◌≡◌, refl, sym}
use mathlib.Core.Bool.{Bool, true, false, cond}
use Prim.Native.Nat.{ℕ, zero, suc, ◌+◌, ◌-◌}
use native.Mathlib.Numerals.{sub-one}
use borrow.Author.Tests.{eq-eqb, ne_eqb}
use Rattle.interval.specs.declared.Interval.{Interval}
use Rattle.motion_derivative.specs.declared.MotionDerivative.{MotionDerivative}
use Rattle.zero_list.specs.declared.Zeros.{Zeros}
use Rattle.zero_search.specs.declared.Search.{Search}
use Rattle.zero_search.specs.Search.{newton_zero, lower_half, upper_half, search, find_zeros}
use Rattle.zero_list.specs.Zeros.{Zeros-accept}

-- What holds of two searches holds of the one chosen.
pub either-search : (P : Search → Type 0) (b : Bool) (x y : Search) → P x → P y → P (cond b x y)
either-search P true x y hx hy = hx
either-search P false x y hx hy = hy

pub search-excluded : (d : ℕ) (f : MotionDerivative) (i : Interval) (z : Zeros) → search d true f i z ≡ record { zeros = z; examined = 1 }
unfolding search
search-excluded zero f i z = refl
search-excluded (suc d) f i z = refl

pub search-newton : (f : MotionDerivative) (i : Interval) (z : Zeros)
    → search 0 false f i z ≡ record { zeros = Zeros-accept z i (newton_zero f i); examined = 1 }
unfolding search
search-newton f i z = refl

pub search-ends : (d : ℕ) (f : MotionDerivative) (i : Interval) (z : Zeros) (lower : Search)
    → (d ≡ 0 → ⊥)
    → lower ≡ find_zeros (d - 1) f (lower_half i) z
    → (lower.zeros.refusal ≡ 0 → ⊥)
    → search d false f i z ≡ record { zeros = lower.zeros; examined = 1 + lower.examined }
unfolding search
search-ends zero f i z lower nonzero found h = absurd (nonzero refl)
search-ends (suc d) f i z lower nonzero found h = rw (sym (rw sub-one at found), ne_eqb _ _ h)

pub search-halves : (d : ℕ) (f : MotionDerivative) (i : Interval) (z : Zeros) (lower upper : Search)
    → (d ≡ 0 → ⊥)
    → lower ≡ find_zeros (d - 1) f (lower_half i) z
    → lower.zeros.refusal ≡ 0
    → upper ≡ find_zeros (d - 1) f (upper_half i) lower.zeros
    → search d false f i z ≡ record { zeros = upper.zeros; examined = 1 + lower.examined + upper.examined }
unfolding search
search-halves zero f i z lower upper nonzero found h above = absurd (nonzero refl)
search-halves (suc d) f i z lower upper nonzero found h above = rw (sym (rw sub-one at found), eq-eqb _ _ h, sym (rw sub-one at above))
