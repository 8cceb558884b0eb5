-- `slerp_far` meets its contract: its calls in turn are the first quaternion turned (`slerp_far-turned`).
use Rattle.pose_slerp.proofs.Arc.{slerp_far-turned}
use borrow.Author.Rules.{rules}
use Rattle.pose_slerp.proofs.slerp_far.Goals as goal

pub returns : goal.returns
returns c = record {
  value = let a = c.args in
      rw (c.turned.ensures.value, c.sin_cos-angle.ensures.value.0, c.sin_cos-angle.ensures.value.1, c.perpendicular_to-perp.ensures.value)
      (slerp_far-turned a.q1 a.q2 a.cos_theta a.theta a.t);
}
