-- `put_points` meets its contract: where the places are three a time the stretch fills them.
use borrow.Author.Tests.{eq-eqb, ne_eqb}
use Rattle.stretch_points.specs.Points.{Rows-points_put}
use Rattle.stretch_points.proofs.put_points.Goals as goal

pub returns-then-answers-times : goal.returns-then-answers-times
unfolding Rows-points_put
returns-then-answers-times c = record { left = rw (eq-eqb _ _ c.if-answers-times.true) c.fill_stretch.ensures.left }

pub returns-else-answers-times : goal.returns-else-answers-times
unfolding Rows-points_put
returns-else-answers-times c = record { left = rw (ne_eqb _ _ c.if-answers-times.false) }
