-- `cover` meets its contract: its second clause, the guarantee, follows from the first (`cover-clauses`).
-- The work asks that the depth is at most 12, which a query that is not refused meets (`cover-depth`).
use borrow.Author.Rules.{rules}
use borrow.Author.Tests.{eq-eqb, ne_eqb}
use Rattle.motion_piece.specs.motion_cover.Cover.{AnimatedTransform-cover}
use Rattle.motion_piece.proofs.motion_cover.Contains.{cover-depth, cover-clauses}
use Rattle.cover_query.proofs.cover.Goals as goal

pub returns-then-n-ne0 : goal.returns-then-n-ne0
unfolding AnimatedTransform-cover
returns-then-n-ne0 c = let all = cover-clauses c.args.m c.args.b c.args.depth
    (rw (← c.cover_refusal-n.ensures.value, ne_eqb _ 0 c.if-n-ne0.true)) in record { value = all.0; contains_motion = all.1 }

pub motion_enclosure-requires : goal.motion_enclosure-requires
motion_enclosure-requires c =
    cover-depth c.args.b c.args.depth (rw (← c.cover_refusal-n.ensures.value) c.if-n-ne0.false)

pub returns : goal.returns
unfolding AnimatedTransform-cover
returns c = let all = cover-clauses c.args.m c.args.b c.args.depth
    (rw (← c.cover_refusal-n.ensures.value, eq-eqb _ 0 c.if-n-ne0.false, c.motion_enclosure.ensures.value)) in record { value = all.0; contains_motion = all.1 }
