-- pbrt's `Interval` (000, `interval_find_zeros` and the lines above it), which the zero search works with. Definitions only.
-- Least and greatest are document 01's. The range assertions of 000's `sin` and `cos` are not carried over.
use Rattle.std.specs.Prelude.{Bool, cond, ◌&&◌, from_bits, Float}
use Rattle.std.specs.Float.{binary32}
use Rattle.std.specs.Float.Ieee.{lt, neg}
use Rattle.float32.specs.MinMax.{min_num, max_num}
use Rattle.float32.specs.Operators.{◌⊕◌, ◌⊖◌, ◌⊗◌, ◌⊘◌, one, two, half}
use Rattle.trig.specs.SinCos.{sin, cos}
use Rattle.interval.specs.declared.Interval.{Interval}

-- Interval::new: v0.min(v1), v0.max(v1)
unfoldable pub Interval-new : Float → Float → Interval
Interval-new v0 v1 = record { low = min_num v0 v1; high = max_num v0 v1 }

-- From<Float> for Interval
abbrev pub Interval-point : Float → Interval
Interval-point f = record { low = f; high = f }

-- The smallest interval that contains both: the union of two boxes on one axis.
unfoldable pub Interval-hull : Interval → Interval → Interval
Interval-hull X Y = record { low = min_num X.low Y.low; high = max_num X.high Y.high }

-- (i.low + i.high) * 0.5
abbrev pub Interval-midpoint : Interval → Float
Interval-midpoint i = (i.low ⊕ i.high) ⊗ half

-- From the least to the greatest of four, in 000's order: of the first two, of the last two, then of what these give.
unfoldable pub Interval-of_four : Float → Float → Float → Float → Interval
Interval-of_four a b c d = Interval-hull (Interval-new a b) (Interval-new c d)

-- Add for Interval
unfoldable pub Interval-add : Interval → Interval → Interval
Interval-add X Y = Interval-new (X.low ⊕ Y.low) (X.high ⊕ Y.high)

-- Sub for Interval
unfoldable pub Interval-sub : Interval → Interval → Interval
Interval-sub X Y = Interval-new (X.low ⊖ Y.high) (X.high ⊖ Y.low)

-- Mul for Interval
unfoldable pub Interval-mul : Interval → Interval → Interval
Interval-mul X Y =
    let four = Interval-of_four (X.low ⊗ Y.low) (X.high ⊗ Y.low) (X.low ⊗ Y.high) (X.high ⊗ Y.high) in
    Interval-new four.low four.high

-- std::f32::consts::PI
abbrev pub pi : Float
pi = from_bits binary32 0x40490fdb

-- The Rust's `(3.0 / 2.0) * pi` and `pi / 2.0`.
abbrev pub three_halves_pi : Float
three_halves_pi = (from_bits binary32 0x40400000 ⊘ two) ⊗ pi

abbrev pub half_pi : Float
half_pi = pi ⊘ two

-- self.low < x && self.high > x
abbrev pub Interval-straddles : Interval → Float → Bool
Interval-straddles X x = lt X.low x && lt x X.high

-- Interval::sin, with a and b for the sines of both ends: swapped if sin_low > sin_high, with high 1 across pi / 2 and low -1 across 3 pi / 2
unfoldable pub Interval-sin_between : Interval → Float → Float → Interval
Interval-sin_between X a b =
    let swapped = lt b a in
    Interval-new
    (cond (Interval-straddles X three_halves_pi) (neg one) (cond swapped b a))
    (cond (Interval-straddles X half_pi) one (cond swapped a b))

unfoldable pub Interval-sin : Interval → Interval
Interval-sin X = Interval-sin_between X (sin X.low) (sin X.high)

-- Interval::cos: likewise, with low -1 across pi
unfoldable pub Interval-cos_between : Interval → Float → Float → Interval
Interval-cos_between X a b =
    let swapped = lt b a in
    Interval-new (cond (Interval-straddles X pi) (neg one) (cond swapped b a)) (cond swapped a b)

unfoldable pub Interval-cos : Interval → Interval
Interval-cos X = Interval-cos_between X (cos X.low) (cos X.high)
