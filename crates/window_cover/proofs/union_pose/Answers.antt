-- `union_pose` meets its contract: a stored transform over the box, grown by its pad, where it is asked for.
use borrow.Author.Rules.{rules}
use Rattle.motion_piece.proofs.Piece.{stored-composition}
use Rattle.window_cover.proofs.union_pose.Goals as goal

pub returns-then-not-asked : goal.returns-then-not-asked
returns-then-not-asked c = record { value = rw c.if-not-asked.true }

pub returns : goal.returns
returns c = record {
  value = let a = c.args in
      rw (
        c.if-not-asked.false,
        c.union_bounds.ensures.value,
        c.box_enclosure.ensures.value,
        c.stored_enclosure.ensures.value,
        stored-composition a.pad a.t a.b,
      );
}
