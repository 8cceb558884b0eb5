-- `box_enclosure` meets its contract: moved, then grown, lane by lane.
use mathlib.Core.Path.{◌∙◌}
use Rattle.lanes_box.proofs.Lanewise.{moved_by_lanes, grown_lanes, box-lanes}
use Rattle.lanes_box.proofs.box_enclosure.Goals as goal

pub returns : goal.returns
unfolding moved_by_lanes grown_lanes
returns c = record {
  value = let a = c.args in
      c.grown.ensures.value ∙ (λ i. grown_lanes (c.moved_by-v.ensures.value i) a.pose.pad) ∙ box-lanes a.pose a.p;
}
