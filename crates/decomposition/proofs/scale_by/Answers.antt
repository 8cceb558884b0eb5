-- `scale_by` meets its contract: the kind chooses the case.
use Rattle.decomposition.specs.Decompose.{scale_by}
use Rattle.decomposition.proofs.scale_by.Goals as goal

pub returns-then-rigid : goal.returns-then-rigid
unfolding scale_by
returns-then-rigid c = record { value = rw c.if-rigid.true }

pub returns-else-rigid : goal.returns-else-rigid
unfolding scale_by
returns-else-rigid c = record { value = rw c.if-rigid.false c.mul.ensures.value }
