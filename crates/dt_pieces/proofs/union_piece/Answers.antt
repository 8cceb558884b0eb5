-- `union_piece` meets its contract: the poses with their pad, their box, and the union.
use borrow.Author.Rules.{rules}
use Rattle.dt_pieces.specs.means.Pieces.{piece_box}
use Rattle.dt_pieces.proofs.union_piece.Goals as goal

pub returns : goal.returns
unfolding piece_box
returns c = record { value = rw (c.union_bounds.ensures.value, c.box_enclosure.ensures.value, c.padded_enclosure.ensures.value) }
