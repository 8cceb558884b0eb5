-- `covers` meets its contract: each way out is a law of what is left in the places, by what stands there.
use borrow.Author.Rules.{rules}
use Rattle.motion_fronts.proofs.Places.{left-none, left-refused, left-accepted}
use Rattle.chain_fronts.proofs.Moves.{kept_cover, no-boxes, no-moves}
use Rattle.chain_fronts.proofs.covers.Goals as goal

pub returns-then-n-eq0 : goal.returns-then-n-eq0
returns-then-n-eq0 c = let a = c.args in let all = no-boxes a.moves.now a.depth a.boxes.now c.if-n-eq0.true in record { front = all.0; places = all.1 }

pub returns-then-n-gt-PLACE_COUNT : goal.returns-then-n-gt-PLACE_COUNT
returns-then-n-gt-PLACE_COUNT c = let a = c.args in let all = left-none (kept_cover a.moves.now a.boxes.now a.depth) a.boxes.now c.if-n-gt-PLACE_COUNT.true in record { front = all.0; places = all.1 }

pub returns-then-moves-eq0 : goal.returns-then-moves-eq0
returns-then-moves-eq0 c = let a = c.args in let all = no-moves a.moves.now a.depth a.boxes.now c.if-n-eq0.false c.if-n-gt-PLACE_COUNT.false c.if-moves-eq0.true in record { front = all.0; places = all.1 }

pub returns-then-front-n : goal.returns-then-front-n
returns-then-front-n c = let a = c.args in let all = left-refused (kept_cover a.moves.now a.boxes.now a.depth) a.boxes.now c.if-n-gt-PLACE_COUNT.false c.join_moves-front.ensures.covered c.if-front-n.true in record { front = all.0; places = all.1 }

pub returns-else-front-n : goal.returns-else-front-n
returns-else-front-n c = let a = c.args in let all = left-accepted (kept_cover a.moves.now a.boxes.now a.depth) a.boxes.now c.if-n-gt-PLACE_COUNT.false c.join_moves-front.ensures.covered c.if-front-n.false in record { front = all.0; places = all.1 }
