-- `covers` meets its contract: each way out is a law of Clauses.antt, by the places that the chain's covers stand in.
use native.Mathlib.Omega.{arith}
use Rattle.chain_covers.proofs.Clauses.{no-moves, no-boxes, many-boxes, places-size, box-refused, all-accepted}
use borrow.Author.Rules.{rules}
use Rattle.chain_covers.proofs.covers.Goals as goal

pub returns-then-moves-eq0 : goal.returns-then-moves-eq0
returns-then-moves-eq0 c = let a = c.args in let all = no-moves a.moves.now a.boxes.now a.depth a.covers.now a.union.now c.if-moves-eq0.true in record { refusal = all.0; covers = all.1.0; union = all.1.1.0; contains_motion = all.1.1.1.0; finer = all.1.1.1.1 }

pub returns-then-n-eq0 : goal.returns-then-n-eq0
returns-then-n-eq0 c = let a = c.args in let all = no-boxes a.moves.now a.boxes.now a.depth a.covers.now a.union.now c.if-moves-eq0.false c.if-n-eq0.true in record { refusal = all.0; covers = all.1.0; union = all.1.1.0; contains_motion = all.1.1.1.0; finer = all.1.1.1.1 }

pub returns-then-n-gt-MAX_BOXES : goal.returns-then-n-gt-MAX_BOXES
returns-then-n-gt-MAX_BOXES c = let a = c.args in let all = many-boxes a.moves.now a.boxes.now a.depth a.covers.now a.union.now c.if-moves-eq0.false c.if-n-gt-MAX_BOXES.true in record { refusal = all.0; covers = all.1.0; union = all.1.1.0; contains_motion = all.1.1.1.0; finer = all.1.1.1.1 }

pub returns-then-front-n : goal.returns-then-front-n
returns-then-front-n c = let some = c.if-moves-eq0.false in let l = c.if-n-gt-MAX_BOXES.false in let a = c.args in let all = box-refused a.moves.now a.boxes.now a.depth a.covers.now a.union.now some l (c.covers-front.ensures.front, c.covers-front.ensures.places) c.if-front-n.true in record { refusal = all.0; covers = all.1.0; union = all.1.1.0; contains_motion = all.1.1.1.0; finer = all.1.1.1.1 }

pub union_places-requires : goal.union_places-requires
union_places-requires c = let l = c.if-n-gt-MAX_BOXES.false in let n = c.if-n-eq0.false in let a = c.args in record { n_nonzero = omega (arith, n); n_le_max_boxes = l; places_len = places-size a.moves.now a.boxes.now a.depth a.covers.now a.union.now l (c.covers-front.ensures.front, c.covers-front.ensures.places) }

pub returns : goal.returns
returns c = let some = c.if-moves-eq0.false in let l = c.if-n-gt-MAX_BOXES.false in let a = c.args in let u = c.union_places.ensures.value in let all = all-accepted a.moves.now a.boxes.now a.depth a.covers.now a.union.now some l (c.covers-front.ensures.front, c.covers-front.ensures.places) c.if-n-eq0.false c.if-front-n.false _ u in record { refusal = all.0; covers = all.1.0; union = rw c.bounds_values.ensures.value all.1.1.0; contains_motion = rw c.bounds_values.ensures.value all.1.1.1.0; finer = rw c.bounds_values.ensures.value all.1.1.1.1 }
