-- `take_window` meets its contract: the three passes, with the first pose after the first.
use Prim.Native.Nat.{ℕ, ◌+◌, ◌-◌, ◌≤◌, ◌<◌}
use mathlib.Core.Path.{◌≡◌, refl, sym, ap, ◌∙◌}
use native.Mathlib.Omega.{arith}
use borrow.Author.Rules.{rules}
use lib.ListN.{length}
use Rattle.reach_window.proofs.Poses.{window-passes}
use Rattle.reach_window.proofs.Walk.{walks-append}
use borrow.Author.Rules.{rules}
use Rattle.reach_window.proofs.take_window.Goals as goal

pub returns : goal.returns
returns c = record {
  walks = let a = c.args in
      rw (window-passes a.moves.now a.d a.w c.requires.fact, ← c.from_rows-m.ensures.value, ← c.asks_first-asked.ensures.value)
      (walks-append (walks-append (walks-append c.take_moves-slices.ensures.walks c.take_stored-first.ensures.walks) c.take_moves-ends.ensures.walks) c.take_moves.ensures.walks);
}
