-- `slice` meets its contract: both ends by `from_fixed`.
use Prim.Native.Nat.{◌+◌, ◌≤◌}
use native.Mathlib.Omega.{arith}
use lib.Pow.{pow-lt}
use Rattle.motion_pad.specs.bounds_query.Query.{max_depth}
use Rattle.motion_pad.specs.unit_interval.Unit.{slice}
use Rattle.motion_piece.proofs.motion_cover.Slices.{slice-end}
use borrow.Author.Rules.{rules}
use Rattle.motion_fronts.proofs.slice.Goals as goal

pub overflow_add-k : goal.overflow_add-k
overflow_add-k c =
    omega (arith, pow-lt {i = c.args.d} {j = 13} (omega arith))

pub returns : goal.returns
unfolding slice
returns c = record {
  value = let a = c.args in
      let h : a.d ≤ max_depth = c.requires.d_le_max_depth in
      rw (c.from_fixed.ensures.value, c.from_fixed-2.ensures.value, slice-end a.d a.k h, slice-end a.d (a.k + 1) h);
}
