-- What the zeros of a search are like, whatever the coefficients: the statement of `interval_find_zeros-stored`.
use Rattle.std.specs.Prelude.{◌≡◌, ◌⊎◌, not, ℕ, ◌≤◌, ◌<◌, length, get_or, T}
use Rattle.std.specs.Float.{nan}
use Rattle.std.specs.Float.Ieee.{is_nan}
use Rattle.trig.specs.float32.Operators.{positive_zero}
use Rattle.zero_list.specs.declared.Zeros.{Zeros}

-- At most eight are stored, every place after them is +0, no place holds a NaN, and there is no refusal but 9, which leaves none.
pub record Stored (z : Zeros) : Type 0 where
  pub places : length z.zeros ≡ 8
  pub count : z.count ≤ 8
  pub unused : (k : ℕ) → z.count ≤ k → k < 8 → get_or z.zeros k nan ≡ positive_zero
  pub numbers : (k : ℕ) → k < 8 → T (not (is_nan (get_or z.zeros k nan)))
  pub refusal : (z.refusal ≡ 0) ⊎ ((z.refusal ≡ 9) × (z.count ≡ 0))
