-- `copy_moves` meets its contract: the moves written at once are those put one after the other.
use Prim.Native.Nat.{◌+◌}
use mathlib.Core.Path.{◌≡◌, refl}
use native.Mathlib.Omega.{arith}
use lib.ListN.{length}
use lib.Seq.{sets-eq}
use Rattle.trial_blocks.proofs.copy_moves.Goals as goal

pub returns : goal.returns
returns c = record {
  left = let a = c.args in
      let z : 0 + length a.moves.now ≡ length a.moves.now = omega arith in
      rw (c.copy_from_slice.ensures.after, sets-eq a.moves.now a.blocks.now 0 (omega (arith, c.requires, c.told-blocks)), z) refl;
}
