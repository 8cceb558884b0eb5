-- `combination_unjudged` meets its contract: its calls in turn, from the last to the first.
use Rattle.pose_slerp.specs.means.Unjudged.{IntervalQuaternion-combination}
use Rattle.pose_slerp.proofs.combination_unjudged.Goals as goal

pub returns : goal.returns
unfolding IntervalQuaternion-combination
returns c = record {
  value = rw (
    c.add_enclosure-w.ensures.value,
    c.mul_ordered-qw.ensures.value,
    c.mul_ordered-pw.ensures.value,
    c.add_enclosure-z.ensures.value,
    c.mul_ordered-qz.ensures.value,
    c.mul_ordered-pz.ensures.value,
    c.add_enclosure-y.ensures.value,
    c.mul_ordered-qy.ensures.value,
    c.mul_ordered-py.ensures.value,
    c.add_enclosure-x.ensures.value,
    c.mul_ordered-qx.ensures.value,
    c.mul_ordered-px.ensures.value,
    c.quaternion_point-u.ensures.value,
    c.quaternion_point-v.ensures.value,
  );
}
