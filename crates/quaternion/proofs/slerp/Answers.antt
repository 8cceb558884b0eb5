-- `slerp` meets its contract: the dot product chooses the case.
use mathlib.Core.Path.{◌≡◌}
use mathlib.Core.Bool.{true}
use lib.Ieee.{lt}
use Rattle.quaternion.specs.Slerp.{slerp_threshold, Quaternion-slerp, slerp_by}
use Rattle.quaternion.proofs.slerp.Goals as goal

pub returns-then-cos_theta : goal.returns-then-cos_theta
unfolding Quaternion-slerp slerp_by
returns-then-cos_theta c = record {
  value = let taken : lt slerp_threshold c.dot-cos_theta.result ≡ true = c.if-cos_theta.true in
      rw (rw c.dot-cos_theta.ensures.value at taken, c.slerp_near.ensures.value);
}

pub returns-else-cos_theta : goal.returns-else-cos_theta
unfolding Quaternion-slerp slerp_by
returns-else-cos_theta c = record { value = rw (rw c.dot-cos_theta.ensures.value at c.if-cos_theta.false, c.slerp_far.ensures.value, c.dot-cos_theta.ensures.value) }
