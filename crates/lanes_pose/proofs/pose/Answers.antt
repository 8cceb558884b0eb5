-- `pose` meets its contract: its calls in turn, lane by lane.
use mathlib.Core.Path.{◌∙◌}
use Rattle.pose_steps.specs.Pose.{is_near}
use Rattle.lanes_pose.specs.means.Poses.{LanesMatrix-linear_by}
use Rattle.lanes_pose.proofs.Lanewise.{one_minus_lanes, slerp_lanes, rotation_lanes, shifted_lanes, pad_lanes, LanesPose-from, linear-lanes, pose-lanes}
use Rattle.lanes_pose.proofs.pose.Goals as goal

pub returns : goal.returns
unfolding one_minus_lanes slerp_lanes rotation_lanes shifted_lanes pad_lanes LanesPose-from
returns c = record {
  value = let a = c.args in
      let u = c.one_minus-u.ensures.value in
      (λ i. LanesPose-from
      ((c.linear_part-linear.ensures.value
      ∙ (λ j. LanesMatrix-linear_by a.a.rigid ((c.rotation-rotation.ensures.value ∙ λ l. rotation_lanes (c.slerp-turned.ensures.value l)) j) a.s0 a.s1 (u j) a.dt)
      ∙ linear-lanes (is_near a.a) a.a.r0 a.second a.s0 a.s1 a.dt a.c a.s a.a.rigid)
      i)
      ((c.shifted-translation.ensures.value ∙ λ j. shifted_lanes a.a.t0 a.a.t1 (u j) a.dt) i)
      ((c.pad_high-pad.ensures.value ∙ λ j. pad_lanes a.pad0 a.pad1 (u j) a.dt) i))
      ∙ pose-lanes a.a a.second a.s0 a.s1 a.pad0 a.pad1 a.dt a.c a.s;
}
