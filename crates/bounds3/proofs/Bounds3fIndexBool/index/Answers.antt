-- `index` meets its contract: each branch is its case of the definition.
use Rattle.bounds3.specs.Bounds3f.{Bounds3f-index}
use Rattle.bounds3.proofs.Bounds3fIndexBool.index.Goals as goal

pub returns-then-i : goal.returns-then-i
unfolding Bounds3f-index
returns-then-i c = rw c.if-i.true

pub returns-else-i : goal.returns-else-i
unfolding Bounds3f-index
returns-else-i c = rw c.if-i.false
