-- `is_pad` meets its contract.
use Rattle.cover_lean.specs.means.Test.{is_pad}
use Rattle.cover_test.proofs.is_pad.Goals as goal

pub returns : goal.returns
unfolding is_pad
returns c = record { value = rw c.is_finite.ensures.value; number = c.is_finite.ensures.number }
