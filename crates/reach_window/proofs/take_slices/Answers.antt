-- `take_slices` meets its contract: a move that the window asks for is its pieces, any other nothing.
use Prim.Native.Nat.{ℕ, ◌+◌, ◌-◌, ◌≤◌, ◌<◌}
use mathlib.Core.Path.{◌≡◌, refl, sym, ap, ◌∙◌}
use native.Mathlib.Omega.{arith}
use borrow.Author.Rules.{rules}
use lib.ListN.{length}
use Rattle.reach_window.proofs.Poses.{slices-asked, slices-none}
use Rattle.reach_window.proofs.Walk.{walks-none}
use borrow.Author.Rules.{rules}
use Rattle.reach_window.proofs.take_slices.Goals as goal

pub returns-then-not-m-overlaps : goal.returns-then-not-m-overlaps
returns-then-not-m-overlaps c = record {
  walks = let a = c.args in
      let t = c.overlaps-overlaps in
      rw (slices-none a.d a.w a.m (rw t.ensures.value at c.if-not-m-overlaps.true)) walks-none;
}

pub returns : goal.returns
returns c = record {
  walks = let a = c.args in
      let t = c.overlaps-overlaps in
      let asked = slices-asked a.d a.w a.m (rw t.ensures.value at c.if-not-m-overlaps.false) in
      rw (asked, ← c.share-dt.ensures.value) c.take_pieces.ensures.walks;
}
