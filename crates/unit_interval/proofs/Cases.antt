-- Cases of the definitions, by computing: the whole interval as one slice, the last of 4,096, and dt a quarter of the way from -2 to 6.
use mathlib.Core.Path.{◌≡◌, refl}
use mathlib.Core.Bool.{true, false}
use lib.Ieee.{binary32, of_bits, round}
use Rattle.unit_interval.specs.Unit.{unit_interval, slice_end, slice, dt}
use Rattle.unit_interval.specs.means.Computing.{computing}

one-slice : slice 0 0 ≡ unit_interval
unfolding computing
one-slice = refl

last-slice : slice 12 4095 ≡ record { low = of_bits binary32 0x3f7ff000; high = of_bits binary32 0x3f800000 }
unfolding computing
last-slice = refl

quarter : dt (round binary32 true 2 1) (round binary32 false 6 1) (round binary32 false 0 1) ≡ slice_end 2 1
unfolding computing
quarter = refl
