-- `border_at` meets its contract: near slerp asks for no angle.
use mathlib.Core.Path.{sym, ◌∙◌}
use Rattle.cover_groups.specs.means.Groups.{Border-from, Border-at}
use Rattle.cover_groups.proofs.border_at.Goals as goal

pub returns-then-near : goal.returns-then-near
unfolding Border-at
returns-then-near c = record {
  value = let a = c.args in
      λ i. Border-at (sym c.if-near.true i) a.theta a.dt;
}

pub returns-else-near : goal.returns-else-near
unfolding Border-from Border-at
returns-else-near c = record {
  value = let a = c.args in
      let s = c.sin_cos-angle.ensures.value in
      (λ i. Border-from a.dt (s.1 i) (s.0 i))
      ∙ λ i. Border-at (sym c.if-near.false i) a.theta a.dt;
}
