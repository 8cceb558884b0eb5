-- `union_pieces` meets its contract: the pieces of the held depth.
use borrow.Author.Rules.{rules}
use Rattle.dt_pieces.proofs.union_pieces.Goals as goal

pub returns : goal.returns
returns c = record { value = rw (c.union_halves.ensures.value, c.held_depth.ensures.value) }
