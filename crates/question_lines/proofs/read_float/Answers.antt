-- `read_float` is `Float-read`, test by test.
use borrow.Author.Tests.{eq-eqb, ne_eqb}
use Rattle.question_lines.specs.Words.{Float-read}
use Rattle.question_lines.proofs.read_float.Goals as goal

pub returns-then-text-at-ne32 : goal.returns-then-text-at-ne32
unfolding Float-read
returns-then-text-at-ne32 c = rw (ne_eqb _ _ c.if-text-at-ne32.true)

pub returns : goal.returns
unfolding Float-read
returns c = rw (eq-eqb _ _ c.if-text-at-ne32.false) c.read_word.ensures.value
