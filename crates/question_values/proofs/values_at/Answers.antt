-- `values_at` fills places that hold +0.
use Rattle.question_values.specs.Places.{values_at}
use Rattle.question_values.proofs.values_at.Goals as goal

pub returns : goal.returns
unfolding values_at
returns g c = record { value = c.put_values.ensures.left }
