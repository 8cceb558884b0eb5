-- `slerp_near` meets its contract: a chain of four calls.
use Rattle.quaternion.specs.Slerp.{slerp_near}
use Rattle.quaternion.proofs.slerp_near.Goals as goal

pub returns : goal.returns
unfolding slerp_near
returns c = record { value = rw (c.normalize.ensures.value, c.add.ensures, c.mul-2.ensures, c.mul.ensures) }
