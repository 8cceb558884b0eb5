-- `shape_fits` is by its tests.
use borrow.Author.Tests.{lt-ltb, le-ltb, eq-eqb, ne_eqb}
use Rattle.question_reader.specs.Question.{Shape-fits}
use Rattle.question_reader.proofs.shape_fits.Goals as goal

pub returns-then-floats-fewest : goal.returns-then-floats-fewest
unfolding Shape-fits
returns-then-floats-fewest c =
    rw (lt-ltb _ _ c.if-floats-fewest.true)

pub returns-then-each-eq0 : goal.returns-then-each-eq0
unfolding Shape-fits
returns-then-each-eq0 c =
    rw (le-ltb _ _ c.if-floats-fewest.false, eq-eqb _ 0 c.if-each-eq0.true)

pub returns : goal.returns
unfolding Shape-fits
returns c =
    rw (le-ltb _ _ c.if-floats-fewest.false, ne_eqb _ 0 c.if-each-eq0.false)
