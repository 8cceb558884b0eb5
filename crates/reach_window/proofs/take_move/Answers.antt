-- `take_move` meets its contract: the move in the rows, and its poses of the stage.
use Prim.Native.Nat.{ℕ, ◌+◌, ◌-◌, ◌≤◌, ◌<◌}
use mathlib.Core.Path.{◌≡◌, refl, sym, ap, ◌∙◌}
use native.Mathlib.Omega.{arith}
use borrow.Author.Rules.{rules}
use lib.ListN.{length}
use borrow.Author.Tests.{eq-eqb, ne_eqb}
use Rattle.reach_window.specs.means.Poses.{stage_poses}
use borrow.Author.Rules.{rules}
use Rattle.reach_window.proofs.take_move.Goals as goal

pub returns-then-stage-eq0 : goal.returns-then-stage-eq0
unfolding stage_poses
returns-then-stage-eq0 c = record { walks = rw (eq-eqb _ 0 c.if-stage-eq0.true, ← c.from_rows-m.ensures.value) c.take_slices.ensures.walks }

pub returns-then-stage-eq1 : goal.returns-then-stage-eq1
unfolding stage_poses
returns-then-stage-eq1 c = record {
  walks = rw (ne_eqb _ 0 c.if-stage-eq0.false, eq-eqb _ 1 c.if-stage-eq1.true, ← c.from_rows-m.ensures.value, ← c.asks_end-asked.ensures.value)
      c.take_stored.ensures.walks;
}

pub returns : goal.returns
unfolding stage_poses
returns c = record {
  walks = rw (
    ne_eqb _ 0 c.if-stage-eq0.false,
    ne_eqb _ 1 c.if-stage-eq1.false,
    ← c.from_rows-m.ensures.value,
    ← c.max-pad.ensures.value,
    ← c.belongs-belongs.ensures.value,
  )
      c.take_stored-2.ensures.walks;
}
