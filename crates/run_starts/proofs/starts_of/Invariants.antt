-- `starts_of` meets its contract: the starting ticks before i are put.
use Rattle.run_starts.specs.means.Ends.{StartsOf}
use Rattle.run_starts.proofs.starts_of.Given as goal

abbrev pub invariant-loop-i : goal.invariant-loop-i
invariant-loop-i l = StartsOf l.i l.lengths l.ends l.starts
