-- `take_stored` meets its contract: a stored transform with its pad, where it is asked for.
use Prim.Native.Nat.{ℕ, ◌+◌, ◌-◌, ◌≤◌, ◌<◌}
use mathlib.Core.Path.{◌≡◌, refl, sym, ap, ◌∙◌}
use native.Mathlib.Omega.{arith}
use borrow.Author.Rules.{rules}
use lib.ListN.{length}
use mathlib.Core.List.{[], ◌∷◌}
use Rattle.reach_window.specs.means.Walk.{Walks}
use Rattle.reach_window.proofs.Walk.{walks-none}
use borrow.Author.Rules.{rules}
use Rattle.reach_window.proofs.take_stored.Goals as goal

pub returns-then-not-asked : goal.returns-then-not-asked
returns-then-not-asked c = record { walks = rw c.if-not-asked.true walks-none }

pub returns : goal.returns
returns c = record { walks = rw (c.if-not-asked.false, ← c.stored_enclosure.ensures.value) c.take_pose.ensures.walks }
