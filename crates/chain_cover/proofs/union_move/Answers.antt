-- `union_move` meets its contract: the move in the rows, its cover, and the union.
use Rattle.chain_cover.proofs.union_move.Goals as goal

pub returns : goal.returns
returns c = record { value = rw (c.union_bounds.ensures.value, c.cover.ensures.value, c.from_rows.ensures.value) }
