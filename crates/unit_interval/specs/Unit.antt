-- The parameter dt of a motion, from 0 to 1, and document 01's slices of it. Definitions only.
-- An end of a slice is the float nearest to k / 2 ^ d, which is k / 2 ^ d itself for the depths up to 12 (`slice_end-exact`).
use Rattle.std.specs.Prelude.{ℕ, ◌+◌, ◌^◌, false, Float}
use Rattle.std.specs.Float.{binary32}
use Rattle.std.specs.Float.Ieee.{of_bits, round}
use Rattle.interval.specs.float32.Operators.{◌⊖◌, ◌⊘◌, one}
use Rattle.interval.specs.declared.Interval.{Interval}

abbrev pub unit_interval : Interval
unit_interval = record { low = of_bits binary32 0; high = one }

-- document 01, Cover: "2^d slices of dt, from k/2^d to (k+1)/2^d"
unfoldable pub slice_end : ℕ → ℕ → Float
slice_end d k = round binary32 false k (2 ^ d)

unfoldable pub slice : ℕ → ℕ → Interval
slice d k = record { low = slice_end d k; high = slice_end d (k + 1) }

-- 000, `interpolate`: (time - self.start_time) / (self.end_time - self.start_time)
unfoldable pub dt : Float → Float → Float → Float
dt start end time = (time ⊖ start) ⊘ (end ⊖ start)
