-- `start_waiting` meets its contract. The invariant: the booms before i are taken.
use mathlib.Core.Path.{◌≡◌}
use lib.ListN.{length}
use Rattle.run_starts.proofs.Taken.{Taking}
use Rattle.run_starts.proofs.start_waiting.Given as goal

abbrev pub invariant-loop-i : goal.invariant-loop-i
invariant-loop-i l = (length l.now ≡ 8) × Taking l.count l.boxes l.lengths l.t l.i l.ends l.now
