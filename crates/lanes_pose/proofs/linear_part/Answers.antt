-- `linear_part` meets its contract: by the case that the test chose, lane by lane.
use mathlib.Core.Path.{sym, ◌∙◌}
use Rattle.lanes_pose.specs.means.Poses.{LanesMatrix-linear_by}
use Rattle.lanes_pose.proofs.Lanewise.{product_lanes, scale_lanes, plain-lanes}
use Rattle.lanes_pose.proofs.linear_part.Goals as goal

pub returns-then-rigid : goal.returns-then-rigid
unfolding LanesMatrix-linear_by
returns-then-rigid c = record { value = let a = c.args in λ i. LanesMatrix-linear_by (sym c.if-rigid.true i) a.m a.s0 a.s1 a.u a.t }

pub returns-else-rigid : goal.returns-else-rigid
unfolding product_lanes scale_lanes
returns-else-rigid c = record {
  value = let a = c.args in
      c.product.ensures.value
      ∙ (λ i. product_lanes a.m (c.scale.ensures.value i))
      ∙ plain-lanes a.m a.s0 a.s1 a.u a.t
      ∙ λ i. LanesMatrix-linear_by (sym c.if-rigid.false i) a.m a.s0 a.s1 a.u a.t;
}
