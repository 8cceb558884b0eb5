-- `join_moves` meets its contract. The invariant: before each move every box is answered the union of the covers before it (`Reached`).
use native.Mathlib.Omega.{arith}
use Rattle.chain_fronts.proofs.Moves.{reached-first, rows-behind, none-behind, reached-next, reached-last}
use Rattle.chain_fronts.proofs.join_moves.Goals as goal

pub loop-rows-init : goal.loop-rows-init
loop-rows-init c =
    let a = c.args in
    reached-first a.moves.now a.boxes.now a.depth c.from_rows.ensures.value c.requires.boxes_len_bound (c.covers-front.ensures.front, c.covers-front.ensures.places)

pub loop-rows-preserved : goal.loop-rows-preserved
loop-rows-preserved c =
    let l = c.loop-rows in
    let (same, more) = rows-behind c.args.moves.now l.rows-index c.loop-rows-test.true in
    reached-next _ _ _ l.invariant more (rw same at c.add_move-front.ensures.covered)

pub returns : goal.returns
returns c = record { covered = let l = c.loop-rows in reached-last _ _ _ l.invariant (none-behind c.args.moves.now l.rows-index c.loop-rows-test.false) c.requires.fact }
