-- `stored_enclosure` meets its contract: two calls.
use Rattle.motion_piece.proofs.stored_enclosure.Goals as goal

pub returns : goal.returns
returns c = record { value = rw (c.matrix_point-matrix.ensures.value, ← c.stored_pad-pad.ensures.value) }
