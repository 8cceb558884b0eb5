-- `slerp` meets its contract: its calls in turn, lane by lane, by the case that the test chose.
use mathlib.Core.Path.{sym, ◌∙◌}
use Rattle.lanes.specs.means.Lanes.{Lane, Lanes-lane, Lanes-chosen}
use Rattle.pose_lean.specs.means.Lean.{slerp_by}
use Rattle.lanes_slerp.specs.means.Quaternions.{LanesQuaternion-of}
use Rattle.lanes_slerp.proofs.Lanewise.{one_minus_lanes, turned_lanes, normalized_lanes, near_lanes, far-lanes}
use Rattle.lanes_slerp.proofs.slerp.Goals as goal

pub returns-then-near : goal.returns-then-near
unfolding one_minus_lanes turned_lanes normalized_lanes
returns-then-near c = record {
  value = let a = c.args in
      let t = c.if-near.true in
      c.normalized.ensures.value
      ∙ (λ i. normalized_lanes
      ((c.turned-mixed.ensures.value
      ∙ λ j. turned_lanes a.q a.second
      ((c.chosen-x.ensures.value ∙ λ l. Lanes-chosen (t l) (c.one_minus-u.ensures.value l) a.c) j)
      ((c.chosen-y.ensures.value ∙ λ l. Lanes-chosen (t l) a.dt a.s) j))
      i))
      ∙ near_lanes a.q a.second a.dt a.c a.s
      ∙ λ i. LanesQuaternion-of (λ (k : Lane). slerp_by (sym t i) a.q a.second (Lanes-lane k a.dt) (Lanes-lane k a.c) (Lanes-lane k a.s));
}

pub returns-else-near : goal.returns-else-near
unfolding one_minus_lanes turned_lanes
returns-else-near c = record {
  value = let a = c.args in
      let t = c.if-near.false in
      c.turned-mixed.ensures.value
      ∙ (λ j. turned_lanes a.q a.second
      ((c.chosen-x.ensures.value ∙ λ l. Lanes-chosen (t l) (c.one_minus-u.ensures.value l) a.c) j)
      ((c.chosen-y.ensures.value ∙ λ l. Lanes-chosen (t l) a.dt a.s) j))
      ∙ far-lanes a.q a.second a.dt a.c a.s
      ∙ λ i. LanesQuaternion-of (λ (k : Lane). slerp_by (sym t i) a.q a.second (Lanes-lane k a.dt) (Lanes-lane k a.c) (Lanes-lane k a.s));
}
