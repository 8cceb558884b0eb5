-- `none` is `Question-none`.
use mathlib.Core.Path.{refl}
use Rattle.question_reader.specs.Question.{Question-none}
use Rattle.question_reader.proofs.none.Goals as goal

pub returns : goal.returns
unfolding Question-none
returns c = refl
