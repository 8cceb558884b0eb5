-- `slerp_far` meets its contract: a chain of nine calls.
use Rattle.quaternion.specs.Slerp.{slerp_far}
use Rattle.quaternion.proofs.slerp_far.Goals as goal

pub returns : goal.returns
unfolding slerp_far
returns c = record {
  value = rw (
    c.add.ensures,
    c.mul-3.ensures,
    c.mul-2.ensures,
    c.sin_cos-angle.ensures.value.0,
    c.sin_cos-angle.ensures.value.1,
    c.normalize-qperp.ensures.value,
    c.sub.ensures,
    c.mul.ensures,
    c.acos-theta.ensures.value,
    c.clamp.ensures.value,
  );
}
