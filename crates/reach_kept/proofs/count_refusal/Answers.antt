-- `count_refusal` meets its contract: its test is the definition's.
use Prim.Native.Nat.{ℕ, ◌+◌, ◌-◌, ◌≤◌, ◌<◌}
use mathlib.Core.Path.{◌≡◌, refl, sym, ap, ◌∙◌}
use native.Mathlib.Omega.{arith}
use borrow.Author.Rules.{rules}
use lib.ListN.{length}
use Rattle.reach_window.specs.reach_laws.Reach.{count_refusal}
use Rattle.reach_kept.proofs.count_refusal.Goals as goal

pub returns-then-n-most : goal.returns-then-n-most
unfolding count_refusal
returns-then-n-most c = record { value = rw c.if-n-most.true }

pub returns : goal.returns
unfolding count_refusal
returns c = record { value = rw c.if-n-most.false }
