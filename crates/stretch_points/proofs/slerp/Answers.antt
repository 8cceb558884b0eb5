-- `slerp` meets its contract: cos_theta chooses the case.
use Rattle.pose_steps.specs.Pose.{Pose-slerp, slerp_by}
use Rattle.pose_slerp.proofs.Arc.{slerp_far-turned}
use Rattle.stretch_points.proofs.slerp.Goals as goal

pub returns-then-a : goal.returns-then-a
unfolding Pose-slerp slerp_by
returns-then-a c = record { value = rw (c.if-a.true, c.slerp_near.ensures.value) }

pub returns : goal.returns
unfolding Pose-slerp slerp_by
returns c = record {
  value = let a = c.args.a in
      let s = c.sin_cos-angle.ensures.value in
      rw (c.if-a.false, c.turned.ensures.value, s.0, s.1, c.requires)
      (slerp_far-turned a.r0 a.r1 a.cos_theta a.theta c.args.t);
}
