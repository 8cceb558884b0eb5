-- `waits` meets its contract: no boom before the index waits.
use mathlib.Core.Path.{◌≡◌}
use mathlib.Core.Bool.{false}
use lib.Dec.{eqb}
use lib.ListN.{get_or}
use Rattle.run_schedule.specs.Day.{some_below}
use Rattle.run_starts.proofs.waits.Given as goal

abbrev pub invariant-loop-end : goal.invariant-loop-end
invariant-loop-end l = some_below l.end-index (λ i. eqb (get_or l.fn.ends i 0) 0) ≡ false
