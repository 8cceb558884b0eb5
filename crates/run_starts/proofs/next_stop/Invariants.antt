-- `next_stop` meets its contract: `next` is the first stop of the booms before the index.
use Rattle.run_starts.specs.means.Ends.{NextStop}
use Rattle.run_starts.proofs.next_stop.Given as goal

abbrev pub invariant-loop-end : goal.invariant-loop-end
invariant-loop-end l = NextStop l.end-index l.fn.ends l.t l.next
