-- `join_pieces` meets its contract: its calls in turn, lane by lane.
use mathlib.Core.Path.{◌∙◌}
use Rattle.cover_groups.proofs.Lanewise.{pose_lanes, box_lanes, join_lanes, pieces-lanes}
use Rattle.cover_groups.proofs.join_pieces.Goals as goal

pub returns : goal.returns
unfolding pose_lanes box_lanes join_lanes
returns c = record {
  value = let a = c.args in
      c.join.ensures.value
      ∙ (λ i. join_lanes a.union ((c.box_enclosure.ensures.value ∙ λ j. box_lanes (c.pose-pose.ensures.value j) a.p) i))
      ∙ pieces-lanes a.a a.second a.s0 a.s1 a.pad0 a.pad1 a.p a.g a.union;
}
