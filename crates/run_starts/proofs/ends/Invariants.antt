-- `ends` meets its contract. The invariant: `ends` tells what each boom has done before tick t. Between two stops nothing starts (`stop-next`).
use Prim.Native.Nat.{◌-◌}
use mathlib.Core.Path.{sym, ◌∙◌}
use native.Mathlib.Omega.{arith}
use Rattle.run_starts.specs.means.Ends.{last_tick}
use Rattle.run_starts.proofs.Stops.{Stop, all-few, stop-first, stop-next, stop-last}
use borrow.Author.Rules.{rules}
use Rattle.run_starts.proofs.ends.Given as goal

abbrev pub invariant-loop-started : goal.invariant-loop-started
invariant-loop-started l = Stop l.count l.boxes l.lengths l.t l.ends

abbrev pub decreases-loop-started : goal.decreases-loop-started
decreases-loop-started l = last_tick - l.t
