-- `sin_cos_beside` meets its contract: the test chooses the angle.
use Rattle.newton_method.proofs.sin_cos_beside.Goals as goal

pub returns-then-x-y : goal.returns-then-x-y
returns-then-x-y c = record { value = rw c.if-x-y.true c.requires }

pub returns : goal.returns
returns c = record { value = rw c.if-x-y.false c.sin_cos_in.ensures.value }
