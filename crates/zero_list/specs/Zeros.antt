-- The zeros found, in an array of eight with a count, and the refusal 9 where a ninth would be stored: `Zeros-store`; `Zeros-accept`, the end of 000's
-- `interval_find_zeros` at depth 0. Definitions only.
use Rattle.std.specs.Prelude.{ℕ, ◌+◌, Bool, cond, ◌&&◌, List, [], ◌∷◌, ltb, set, Float}
use Rattle.std.specs.Float.{binary32}
use Rattle.std.specs.Float.Ieee.{of_bits, lt, le}
use Rattle.interval.specs.float32.Operators.{◌⊕◌, ◌⊖◌, positive_zero}
use Rattle.interval.specs.declared.Interval.{Interval}
use Rattle.zero_list.specs.declared.Zeros.{Zeros}

-- 1.0e-3
abbrev pub tolerance : Float
tolerance = of_bits binary32 0x3a83126f

-- Eight places, each +0.
abbrev pub eight_zeros : List Float
eight_zeros = positive_zero ∷ positive_zero ∷ positive_zero ∷ positive_zero ∷ positive_zero ∷ positive_zero ∷ positive_zero ∷ positive_zero ∷ []

-- Nothing found: 0 before the search, 9 where a ninth zero would be stored.
abbrev pub Zeros-empty : ℕ → Zeros
Zeros-empty refusal = record { zeros = eight_zeros; count = 0; refusal = refusal }

-- zeros[*zero_count] = t_newton; *zero_count += 1
unfoldable pub Zeros-store : Zeros → Float → Zeros
Zeros-store z t =
    cond (ltb z.count 8)
    (record { zeros = set z.zeros z.count t; count = z.count + 1; refusal = 0 })
    (Zeros-empty 9)

-- t_newton >= i.low - 1.0e-3 && t_newton < i.high + 1.0e-3
abbrev pub near_interval : Interval → Float → Bool
near_interval i t = le (i.low ⊖ tolerance) t && lt t (i.high ⊕ tolerance)

-- The end of 000's search at depth 0: t is stored where it lies in the interval or near it.
unfoldable pub Zeros-accept : Zeros → Interval → Float → Zeros
Zeros-accept z i t = cond (near_interval i t) (Zeros-store z t) z
