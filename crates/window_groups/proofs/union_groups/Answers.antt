-- `union_groups` meets its contract: what is computed once, then all pieces, lane by lane.
use mathlib.Core.Path.{ap, ◌∙◌}
use borrow.Author.Rules.{rules}
use Rattle.pose_steps.specs.Pose.{is_near}
use Rattle.pose_steps.specs.Enclose.{Bounds3f-intervals}
use Rattle.lanes_rotation.specs.lanes.means.Lanes.{Lane}
use Rattle.lanes_box.specs.means.Boxes.{LanesVector-joined}
use Rattle.window_groups.specs.means.Halves.{fold_halves, LanesVector-quarters, lane_halves, Halves-union}
use Rattle.window_groups.proofs.Lanewise.{border-dt, border-own, halves-lanes}
use Rattle.window_groups.proofs.union_groups.Goals as goal

pub join_halves-joined-requires : goal.join_halves-joined-requires
join_halves-joined-requires c =
    let a = c.args in
    let near = is_near a.a in
    let theta = a.a.theta in
    (border-own near theta a.dt.low c.border_at-from.ensures.value, border-own near theta a.dt.high c.border_at-to.ensures.value)

pub returns : goal.returns
unfolding Halves-union lane_halves
returns c = record {
  value = let a = c.args in
      let near = is_near a.a in
      let theta = a.a.theta in
      let low = border-dt near theta a.dt.low c.border_at-from.ensures.value in
      let high = border-dt near theta a.dt.high c.border_at-to.ensures.value in
      c.joined.ensures.value
      ∙ ap LanesVector-joined
      (c.join_halves-joined.ensures.value
      ∙ (λ i. fold_halves (LanesVector-quarters a.a (c.second_quaternion-second.ensures.value i) a.s0 a.s1 a.pad0 a.pad1 (c.repeated-p.ensures.value i)) a.depth
      (low i) (high i) (c.repeated-union.ensures.value i))
      ∙ halves-lanes a.a a.s0 a.s1 a.pad0 a.pad1 a.b a.depth a.dt.low a.dt.high (λ (l : Lane). Bounds3f-intervals a.first));
}
