-- `padded_enclosure` meets its contract: two calls.
use Rattle.motion_piece.proofs.padded_enclosure.Goals as goal

pub returns : goal.returns
returns c = record { value = rw (c.pad_enclosure-pad.ensures.value, c.pose_enclosure-matrix.ensures.value) }
