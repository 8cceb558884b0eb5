-- Cases of the two readings, by computing: (3, 4) is normalized by its length 5, in intervals of one number too; a square round the origin is refused with 10,
-- since the squared length starts below zero.
use mathlib.Core.Path.{◌≡◌, refl}
use Prim.Native.Nat.{ℕ}
use mathlib.Core.Bool.{true, false}
use lib.Ieee.{Float, binary32, round}
use Rattle.interval.specs.Interval.{Interval-point}
use Rattle.formula.specs.means.Computing.{computing}
use Rattle.formula_example.specs.Normalize.{Vector2-normalize, Vector2-normalize_enclosure}

abbrev fraction : ℕ → ℕ → Float
fraction n d = round binary32 false n d

length-5 : Vector2-normalize (record { x = fraction 3 1; y = fraction 4 1 }) ≡ record { x = fraction 3 5; y = fraction 4 5 }
unfolding computing
length-5 = refl

length-5-point : Vector2-normalize_enclosure 0 (record { x = Interval-point (fraction 3 1); y = Interval-point (fraction 4 1) })
    ≡ record { value = record { x = Interval-point (fraction 3 5); y = Interval-point (fraction 4 5) }; refusal = 0 }
unfolding computing
length-5-point = refl

round-origin : (Vector2-normalize_enclosure 0 (record {
  x = record { low = round binary32 true 1 1; high = fraction 1 1 };
  y = record { low = round binary32 true 1 1; high = fraction 1 1 };
})).refusal ≡ 10
unfolding computing
round-origin = refl
