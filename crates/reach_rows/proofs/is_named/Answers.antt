-- `is_named` meets its contract: what the union doesn't meet, none of the boxes does.
use Prim.Native.Nat.{ℕ, ◌+◌, ◌-◌, ◌≤◌, ◌<◌}
use mathlib.Core.Path.{◌≡◌, refl, sym, ap, ◌∙◌}
use native.Mathlib.Omega.{arith}
use borrow.Author.Rules.{rules}
use lib.ListN.{length}
use Rattle.reach_rows.proofs.Named.{not-around}
use borrow.Author.Tests.{not-true}
use borrow.Author.Rules.{rules}
use Rattle.reach_rows.proofs.is_named.Goals as goal

pub returns-then-not-meets : goal.returns-then-not-meets
returns-then-not-meets c = record {
  value = let a = c.args in
      rw c.if-named.false (not-around a.boxes.now a.row c.requires c.meets.ensures.value c.if-not-meets.true);
}

pub returns : goal.returns
returns c = record { value = rw c.if-named.false c.met_by.ensures.value }
