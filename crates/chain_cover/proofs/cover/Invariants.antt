-- `cover` meets its contract. Its loop keeps the union of all covers: what is taken with what is left from i on.
use mathlib.Core.Path.{◌≡◌}
use Rattle.chain_cover.proofs.Union.{covers_from}
use Rattle.chain_cover.proofs.cover.Given as goal

abbrev pub invariant-loop-i : goal.invariant-loop-i
invariant-loop-i l = covers_from l.b l.depth l.r l.moves l.i ≡ covers_from l.b l.depth l.initial.r l.moves 1
