-- `borders_from` meets its contract: the border that is known and four more, end by end.
use mathlib.Core.Path.{◌∙◌}
use borrow.Author.Rules.{rules}
use Rattle.cover_groups.specs.means.Groups.{LanesBorders-from, LanesBorders-of, LanesBorders-steps}
use Rattle.cover_groups.proofs.borders_from.Goals as goal

pub returns : goal.returns
unfolding LanesBorders-from LanesBorders-of LanesBorders-steps
returns c = record {
  value = (λ i. LanesBorders-from (c.ends-dt.ensures.value i) (c.ends-cos.ensures.value i) (c.ends-sin.ensures.value i))
      ∙ λ i. LanesBorders-of (c.requires i) (c.border_at-b.ensures.value i) (c.border_at-c.ensures.value i) (c.border_at-d.ensures.value i) (c.border_at-e.ensures.value i);
}
