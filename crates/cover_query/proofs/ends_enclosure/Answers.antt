-- `ends_enclosure` meets its contract: a chain of calls.
use Rattle.motion_piece.specs.motion_cover.Cover.{AnimatedTransform-enclose_ends}
use Rattle.motion_piece.proofs.Piece.{stored-composition}
use Rattle.cover_query.proofs.ends_enclosure.Goals as goal

pub returns : goal.returns
unfolding AnimatedTransform-enclose_ends
returns c = record {
  value = let a = c.args in
      rw (
        stored-composition a.m.pad0 a.m.start_transform a.b,
        stored-composition a.m.pad1 a.m.end_transform a.b,
        c.union_bounds.ensures.value,
        c.box_enclosure-2.ensures.value,
        c.box_enclosure.ensures.value,
        c.stored_enclosure-end.ensures.value,
        c.stored_enclosure-start.ensures.value,
      );
}
