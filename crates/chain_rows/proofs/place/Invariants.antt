-- `place` meets its contract. Its loop keeps i + the place in what is left from i on: the place in the whole.
use Prim.Native.Nat.{◌+◌}
use mathlib.Core.Path.{◌≡◌}
use Rattle.chain_rows.proofs.Search.{place_from}
use Rattle.chain_rows.proofs.place.Given as goal

abbrev pub invariant-loop-i : goal.invariant-loop-i
invariant-loop-i l = l.i + place_from l.time l.moves l.i ≡ place_from l.time l.moves 0
