-- The rounded midpoint of a part of the unit interval lies in it: `midpoint-contained`. The sum of its ends is from 0 to 2, so that it doesn't overflow.
use lib.Dec.{T}
use lib.Ieee.{Float, binary32, add, round, of_bits, fits}
use lib.Ieee.Scale.{finite}
use Rattle.float32.proofs.rounding.Order.{between-finite}
use Rattle.float32.proofs.rounding.Arithmetic.{add-mono}
use Rattle.float32.specs.Operators.{◌⊕◌, positive_zero, one}
use Rattle.float32.proofs.Constants.{zero-finite, one-finite}
use Rattle.midpoint.proofs.Midpoint.{midpoint-between}
use Rattle.interval.specs.declared.Interval.{Interval}
use Rattle.interval.specs.Interval.{Interval-midpoint}
use Rattle.interval.specs.Contains.{Contains, Subset}
use Rattle.interval.proofs.Contains.{subset-low, subset-high}
use Rattle.unit_interval.specs.Unit.{unit_interval}

unit-finite : {x : Float} → Contains unit_interval x → T (finite x)
unit-finite u = between-finite zero-finite one-finite u.low u.high

zeros-finite : T (finite (positive_zero ⊕ positive_zero))
unfolding add round of_bits
zeros-finite = tt

ones-finite : T (finite (one ⊕ one))
unfolding add round of_bits
ones-finite = tt

pub midpoint-contained : {i : Interval} → T (fits binary32 i.low) → T (fits binary32 i.high) → Subset i unit_interval → Contains i (Interval-midpoint i)
midpoint-contained {i} l h u =
    let a = subset-low u in
    let b = subset-high u in
    let f = unit-finite a in
    let g = unit-finite b in
    let sum = between-finite zeros-finite ones-finite (add-mono binary32 zero-finite f zero-finite g a.low b.low)
    (add-mono binary32 f one-finite g one-finite a.high b.high) in
    let (low, high) = midpoint-between i.low i.high f g l h u.proper sum in
    record { low = low; high = high }
