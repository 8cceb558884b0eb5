-- `covers` meets its contract: each way out is a law of Places.antt, by what stands in the places.
use borrow.Author.Rules.{rules}
use Rattle.motion_piece.specs.motion_cover.Cover.{AnimatedTransform-cover}
use Rattle.motion_fronts.proofs.Places.{left-none, left-refused, left-accepted}
use Rattle.motion_fronts.proofs.covers.Goals as goal

pub returns-then-boxes-gt-PLACE_COUNT : goal.returns-then-boxes-gt-PLACE_COUNT
returns-then-boxes-gt-PLACE_COUNT c = let a = c.args in let all = left-none (λ b. AnimatedTransform-cover a.m b a.depth) a.boxes.now c.if-boxes-gt-PLACE_COUNT.true in record { front = all.0; places = all.1 }

pub returns-then-front-boxes : goal.returns-then-front-boxes
returns-then-front-boxes c = let a = c.args in let all = left-refused (λ b. AnimatedTransform-cover a.m b a.depth) a.boxes.now c.if-boxes-gt-PLACE_COUNT.false c.cover_boxes-front.ensures.covered c.if-front-boxes.true in record { front = all.0; places = all.1 }

pub returns-else-front-boxes : goal.returns-else-front-boxes
returns-else-front-boxes c = let a = c.args in let all = left-accepted (λ b. AnimatedTransform-cover a.m b a.depth) a.boxes.now c.if-boxes-gt-PLACE_COUNT.false c.cover_boxes-front.ensures.covered c.if-front-boxes.false in record { front = all.0; places = all.1 }
