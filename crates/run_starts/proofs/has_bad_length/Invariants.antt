-- `has_bad_length` meets its contract: no run length before the index is bad.
use mathlib.Core.Path.{◌≡◌}
use mathlib.Core.Bool.{false}
use Rattle.run_schedule.specs.Day.{some_below}
use Rattle.run_starts.specs.means.Ends.{bad_length_at}
use Rattle.run_starts.proofs.has_bad_length.Given as goal

abbrev pub invariant-loop-n : goal.invariant-loop-n
invariant-loop-n l = some_below l.n-index (bad_length_at l.lengths) ≡ false
