-- The interval operations of document 01's cover, and each with its refusal number. Definitions only.
-- An operation's ends are rounded to nearest, as every float operation is: since rounding keeps the order, they enclose what the operation gives at any point.
-- Least and greatest of four are taken in 000's order, that of its own product; the order decides no more than the sign of a zero.
use Rattle.std.specs.Prelude.{ℕ, zero, suc, Bool, cond, ◌&&◌, from_bits}
use Rattle.std.specs.Float.{binary32}
use Rattle.std.specs.Float.Ieee.{le}
use Rattle.std.specs.Float.Ieee.Scale.{finite}
use Rattle.refusal.specs.First.{first_refusal}
use Rattle.square_root.specs.SquareRoot.{sqrt}
use Rattle.trig.specs.Range.{sin_low, sin_high, cos_low, cos_high, full_turn_float}
use Rattle.float32.specs.Operators.{◌⊕◌, ◌⊖◌, ◌⊗◌, ◌⊘◌}
use Rattle.interval.specs.declared.Interval.{Interval}
use Rattle.interval.specs.Judged.{Judged}
use Rattle.interval.specs.Interval.{Interval-of_four}

-- ---- document 01, Cover
-- "Sum: low+low, high+high."
unfoldable pub Interval-add_enclosure : Interval → Interval → Interval
Interval-add_enclosure X Y = record { low = X.low ⊕ Y.low; high = X.high ⊕ Y.high }

-- "Difference: low−high, high−low."
unfoldable pub Interval-sub_enclosure : Interval → Interval → Interval
Interval-sub_enclosure X Y = record { low = X.low ⊖ Y.high; high = X.high ⊖ Y.low }

-- "Product: least and greatest of the four."
unfoldable pub Interval-mul_enclosure : Interval → Interval → Interval
Interval-mul_enclosure X Y = Interval-of_four (X.low ⊗ Y.low) (X.high ⊗ Y.low) (X.low ⊗ Y.high) (X.high ⊗ Y.high)

-- "Division only by the positive root: least and greatest of the four."
unfoldable pub Interval-div_enclosure : Interval → Interval → Interval
Interval-div_enclosure X Y = Interval-of_four (X.low ⊘ Y.low) (X.high ⊘ Y.low) (X.low ⊘ Y.high) (X.high ⊘ Y.high)

-- "Root: of both ends."
unfoldable pub Interval-sqrt_enclosure : Interval → Interval
Interval-sqrt_enclosure X = record { low = sqrt binary32 X.low; high = sqrt binary32 X.high }

-- "The sine takes the least and greatest of its values at both ends, with high 1 if Q lies from one end's u to the other's and low −1 if 3Q does"
unfoldable pub Interval-sin_enclosure : Interval → Interval
Interval-sin_enclosure X = record { low = sin_low X.low X.high; high = sin_high X.low X.high }

-- "the cosine likewise, with −1 at 2Q and 1 at 0 and 4Q"
unfoldable pub Interval-cos_enclosure : Interval → Interval
Interval-cos_enclosure X = record { low = cos_low X.low X.high; high = cos_high X.low X.high }

-- Angles from 0 to a full turn, where `Interval-sin_enclosure` and `Interval-cos_enclosure` enclose;
-- below zero, and far beyond a full turn, document 01's rule does not.
abbrev pub are_angles : Interval → Bool
are_angles X = le (from_bits binary32 0) X.low && le X.high full_turn_float

-- ---- refusal numbers, 0 for none
-- 5: an interval end is not finite.
unfoldable pub not_finite : Interval → ℕ
not_finite X = cond (finite X.low && finite X.high) 0 5

-- 10: the low end is zero or below.
unfoldable pub not_positive : Interval → ℕ
not_positive X = cond (le X.low (from_bits binary32 0)) 10 0

-- ---- each operation with the number met so far: an interval is judged as it is formed
unfoldable pub Judged-judge : ℕ → Interval → Judged
Judged-judge met X = record { interval = X; refusal = first_refusal met (not_finite X) }

unfoldable pub Judged-add_enclosure : ℕ → Interval → Interval → Judged
Judged-add_enclosure met X Y = Judged-judge met (Interval-add_enclosure X Y)

unfoldable pub Judged-sub_enclosure : ℕ → Interval → Interval → Judged
Judged-sub_enclosure met X Y = Judged-judge met (Interval-sub_enclosure X Y)

unfoldable pub Judged-mul_enclosure : ℕ → Interval → Interval → Judged
Judged-mul_enclosure met X Y = Judged-judge met (Interval-mul_enclosure X Y)

-- 10 is judged of the interval that is rooted, which was judged for 5 as it was formed, and 5 then of the root.
unfoldable pub Judged-sqrt_enclosure : ℕ → Interval → Judged
Judged-sqrt_enclosure met X = Judged-judge (first_refusal met (not_positive X)) (Interval-sqrt_enclosure X)

-- A divisor has to be positive. In a formula it is a root of what was not refused, so that this 10 is never the first number met (`div-after-sqrt`).
unfoldable pub Judged-div_enclosure : ℕ → Interval → Interval → Judged
Judged-div_enclosure met X Y = Judged-judge (first_refusal met (not_positive Y)) (Interval-div_enclosure X Y)

unfoldable pub Judged-sin_enclosure : ℕ → Interval → Judged
Judged-sin_enclosure met X = Judged-judge met (Interval-sin_enclosure X)

unfoldable pub Judged-cos_enclosure : ℕ → Interval → Judged
Judged-cos_enclosure met X = Judged-judge met (Interval-cos_enclosure X)
