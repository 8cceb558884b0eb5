-- `join_moves` meets its contract. The invariant: before each move every box is answered the union of the covers before it (`Reached`).
use Prim.Native.Nat.{◌+◌}
use Rattle.chain_fronts.proofs.Moves.{Reached}
use Rattle.chain_fronts.proofs.join_moves.Given as goal

abbrev pub invariant-loop-rows : goal.invariant-loop-rows
invariant-loop-rows l = Reached l.moves l.boxes l.depth l.places l.front (l.rows-index + 1)
