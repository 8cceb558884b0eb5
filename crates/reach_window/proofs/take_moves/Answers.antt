-- `take_moves` meets its contract. The invariant: what the moves before i bring is taken.
use Rattle.reach_window.proofs.Walk.{passing-first, passing-next, passing-last}
use Rattle.reach_window.proofs.take_moves.Goals as goal

pub loop-i-init : goal.loop-i-init
loop-i-init c = passing-first _ _ _ _ _ _

pub take_move-next-requires : goal.take_move-next-requires
take_move-next-requires c = record { i_in_bounds = c.loop-i-test.true; d_le_max_depth = c.requires.d_le_max_depth; boxes_len_bound = c.requires.boxes_len_bound }

pub loop-i-preserved : goal.loop-i-preserved
loop-i-preserved c =
    let l = c.loop-i in
    let t = c.loop-i-test.true in
    passing-next _ _ _ _ _ _ l.invariant t c.take_move-next.ensures.walks

pub returns : goal.returns
returns c = record {
  walks = let l = c.loop-i in
      passing-last _ _ _ _ _ _ l.invariant c.loop-i-test.false;
}
