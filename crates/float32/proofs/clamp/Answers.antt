-- `clamp` meets its contract: each return is the case of the definition that its tests chose.
use Rattle.float32.specs.Clamp.{clamp}
use Rattle.float32.proofs.clamp.Goals as goal

pub returns-then-v-a : goal.returns-then-v-a
unfolding clamp
returns-then-v-a c = record { value = rw c.if-v-a.true }

pub returns-then-v-b : goal.returns-then-v-b
unfolding clamp
returns-then-v-b c = record { value = rw (c.if-v-a.false, c.if-v-b.true) }

pub returns-else-v-b : goal.returns-else-v-b
unfolding clamp
returns-else-v-b c = record { value = rw (c.if-v-a.false, c.if-v-b.false) }
