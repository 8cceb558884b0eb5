-- `word_end` is where the next space stands.
use native.Mathlib.Omega.{arith}
use Rattle.question_reader.specs.Question.{word_end}
use Rattle.question_reader.proofs.word_end.Goals as goal

pub returns : goal.returns
unfolding word_end
returns c = record { value = c.find.ensures.value; upper_bound = omega (arith, c.find.ensures.upper_bound, c.requires) }
