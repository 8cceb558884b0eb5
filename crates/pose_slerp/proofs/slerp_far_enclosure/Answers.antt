-- `slerp_far_enclosure` meets its contract: its calls in turn, from the last to the first.
use Rattle.pose_slerp.proofs.slerp_far_enclosure.Goals as goal

pub returns : goal.returns
returns c = record {
  value = rw (
    c.slerp_far_enclosure.ensures.value,
    c.from-theta.ensures,
    c.from-cos_theta.ensures,
    c.quaternion_point-q.ensures.value,
    c.quaternion_point-p.ensures.value,
  );
}
