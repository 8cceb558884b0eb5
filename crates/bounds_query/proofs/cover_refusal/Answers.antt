-- `cover_refusal` meets its contract: the box's number stands before the depth's.
use Rattle.bounds_query.specs.Query.{cover_refusal}
use borrow.Author.Tests.{eq-eqb, ne_eqb, lt-ltb, le-ltb}
use Rattle.bounds_query.proofs.cover_refusal.Goals as goal

pub returns-then-n-ne0 : goal.returns-then-n-ne0
unfolding cover_refusal
returns-then-n-ne0 c = record { value = rw (← c.refusal-n.ensures.value, ne_eqb _ 0 c.if-n-ne0.true) }

pub returns-then-d-gt-MAX_DEPTH : goal.returns-then-d-gt-MAX_DEPTH
unfolding cover_refusal
returns-then-d-gt-MAX_DEPTH c = record { value = rw (← c.refusal-n.ensures.value, eq-eqb _ 0 c.if-n-ne0.false, lt-ltb 12 _ c.if-d-gt-MAX_DEPTH.true) }

pub returns : goal.returns
unfolding cover_refusal
returns c = record { value = rw (← c.refusal-n.ensures.value, eq-eqb _ 0 c.if-n-ne0.false, le-ltb 12 _ c.if-d-gt-MAX_DEPTH.false) }
