-- `motion_enclosure` meets its contract: a depth up to 12 is the one at which it is held, and a refusal of the stored transforms stays over all slices
-- (`refused-first`).
use native.Mathlib.Nat.{min-eq_left}
use borrow.Author.Rules.{rules}
use borrow.Author.Tests.{not-true, not-false}
use Rattle.bounds_query.specs.Zeros.{BoundsAnswer-positive_zeros}
use Rattle.motion_piece.specs.motion_cover.Cover.{AnimatedTransform-enclose_motion}
use Rattle.motion_piece.proofs.motion_cover.Slices.{refused-first}
use Rattle.motion_piece.proofs.Piece.{stored-composition}
use Rattle.cover_query.proofs.motion_enclosure.Goals as goal

pub returns-then-not-m : goal.returns-then-not-m
unfolding AnimatedTransform-enclose_motion
returns-then-not-m c = record {
  value = rw (
    not-true c.args.m.actually_animated c.if-not-m.true,
    stored-composition _ _ _,
    c.positive_zeros.ensures.value,
    c.box_enclosure.ensures.value,
    c.stored_enclosure.ensures.value,
    c.max-pad.ensures.value,
  );
}

pub returns-in-Bounds : goal.returns-in-Bounds
unfolding AnimatedTransform-enclose_motion
returns-in-Bounds c = record {
  value = rw (
    ← c.ends_enclosure-ends.ensures.value,
    c.in-Bounds.is,
    c.union_slices.ensures.value,
    min-eq_left c.requires,
    not-false c.args.m.actually_animated c.if-not-m.false,
  );
}

pub returns-in-Refused : goal.returns-in-Refused
unfolding AnimatedTransform-enclose_motion BoundsAnswer-positive_zeros
returns-in-Refused c = record {
  value = rw (
    ← c.ends_enclosure-ends.ensures.value,
    c.in-Refused.is,
    refused-first _ _ _ _ _ _,
    not-false c.args.m.actually_animated c.if-not-m.false,
  );
}
