-- `box_enclosure` meets its contract: a chain of calls.
use Rattle.motion_piece.specs.means.Piece.{PaddedPose-enclose_bounds}
use Rattle.motion_piece.proofs.Piece.{moved-judged}
use Rattle.motion_piece.proofs.box_enclosure.Goals as goal

pub returns : goal.returns
unfolding PaddedPose-enclose_bounds
returns c = record { value = rw (c.grow.ensures.value, c.moved_box.ensures.value, c.moved_intervals-moved.ensures.value, moved-judged c.args.pose.matrix c.args.b) }
