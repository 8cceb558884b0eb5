-- `meets_running` meets its contract: no boom before j runs and meets the box.
use mathlib.Core.Path.{◌≡◌}
use mathlib.Core.Bool.{false}
use Rattle.run_schedule.specs.Day.{some_below}
use Rattle.run_starts.specs.means.Ends.{runs_and_meets}
use Rattle.run_starts.proofs.meets_running.Given as goal

abbrev pub invariant-loop-j : goal.invariant-loop-j
invariant-loop-j l = some_below l.j (runs_and_meets l.boxes l.ends l.t l.i) ≡ false
