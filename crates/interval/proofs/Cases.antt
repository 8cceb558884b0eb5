-- Cases of the definitions, by computing: each operation of the cover on small whole numbers, and where it refuses;
-- sine and cosine across the quarters' places, in the cover's rule and in pbrt's.
use Rattle.std.proofs.Common.{◌≡◌, ℕ, true, false, refl}
use lib.Ieee.{Float, nan, inf, binary32, of_bits, round}
use Rattle.interval.specs.declared.Interval.{Interval}
use Rattle.interval.specs.Judged.{Judged}
use Rattle.interval.specs.Interval.{Interval-hull, Interval-add, Interval-sub, Interval-mul, Interval-sin, Interval-cos, pi}
use Rattle.interval.specs.Enclosure.{Judged-add_enclosure, Judged-sub_enclosure, Judged-mul_enclosure, Judged-div_enclosure}
use Rattle.interval.specs.Enclosure.{Judged-sqrt_enclosure, Judged-sin_enclosure, Judged-cos_enclosure}
use Rattle.interval.specs.means.Computing.{computing}

abbrev plus : ℕ → Float
plus n = round binary32 false n 1

abbrev minus : ℕ → Float
minus n = round binary32 true n 1

abbrev ◌to◌ : Float → Float → Interval
◌to◌ l h = record { low = l; high = h }

infix 60 ◌to◌
abbrev judged : Interval → ℕ → Judged
judged X n = record { interval = X; refusal = n }

-- ---- the cover's operations
sum : Judged-add_enclosure 0 (plus 1 to plus 2) (minus 3 to plus 5) ≡ judged (minus 2 to plus 7) 0
unfolding computing
sum = refl

difference : Judged-sub_enclosure 0 (plus 1 to plus 2) (minus 3 to plus 5) ≡ judged (minus 4 to plus 5) 0
unfolding computing
difference = refl

product : Judged-mul_enclosure 0 (minus 1 to plus 2) (minus 3 to plus 5) ≡ judged (minus 6 to plus 10) 0
unfolding computing
product = refl

quotient : Judged-div_enclosure 0 (minus 3 to plus 6) (plus 1 to plus 3) ≡ judged (minus 3 to plus 6) 0
unfolding computing
quotient = refl

root : Judged-sqrt_enclosure 0 (plus 4 to plus 9) ≡ judged (plus 2 to plus 3) 0
unfolding computing
root = refl

-- The low end of what is rooted, and of a divisor, is zero.
root-of-zero : (Judged-sqrt_enclosure 0 (plus 0 to plus 9)).refusal ≡ 10
unfolding computing
root-of-zero = refl

quotient-by-zero : (Judged-div_enclosure 0 (plus 1 to plus 1) (plus 0 to plus 1)).refusal ≡ 10
unfolding computing
quotient-by-zero = refl

-- The greatest float, doubled.
overflow : Judged-add_enclosure 0 (plus 0 to of_bits binary32 0x7f7fffff) (plus 0 to of_bits binary32 0x7f7fffff) ≡ judged (plus 0 to inf false) 5
unfolding computing
overflow = refl

-- A number met before stands.
first-number : (Judged-sqrt_enclosure 5 (minus 1 to plus 4)).refusal ≡ 5
unfolding computing
first-number = refl

-- ---- sine and cosine from 0 to 2, across a quarter turn, and from 2 to 5, across two and three
sine-peak : Judged-sin_enclosure 0 (plus 0 to plus 2) ≡ judged (plus 0 to plus 1) 0
unfolding computing
sine-peak = refl

sine-trough : (Judged-sin_enclosure 0 (plus 2 to plus 5)).interval.low ≡ minus 1
unfolding computing
sine-trough = refl

cosine-from-zero : (Judged-cos_enclosure 0 (plus 0 to plus 2)).interval.high ≡ plus 1
unfolding computing
cosine-from-zero = refl

cosine-trough : (Judged-cos_enclosure 0 (plus 2 to plus 5)).interval.low ≡ minus 1
unfolding computing
cosine-trough = refl

-- ---- pbrt's
pbrt-product : Interval-mul (minus 1 to plus 2) (minus 3 to plus 5) ≡ minus 6 to plus 10
unfolding computing
pbrt-product = refl

pbrt-difference-of-nan : Interval-sub (nan to plus 2) (minus 3 to plus 5) ≡ plus 5 to plus 5
unfolding computing
pbrt-difference-of-nan = refl

pbrt-sine-peak : Interval-sin (plus 0 to plus 2) ≡ plus 0 to plus 1
unfolding computing
pbrt-sine-peak = refl

pbrt-sine-trough : (Interval-sin (plus 2 to plus 5)).low ≡ minus 1
unfolding computing
pbrt-sine-trough = refl

pbrt-cosine-trough : (Interval-cos (plus 2 to plus 5)).low ≡ minus 1
unfolding computing
pbrt-cosine-trough = refl

union : Interval-hull (plus 1 to plus 2) (minus 3 to plus 1) ≡ minus 3 to plus 2
unfolding computing
union = refl
