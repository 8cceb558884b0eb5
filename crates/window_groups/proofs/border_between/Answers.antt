-- `border_between` meets its contract: the border at the midpoint.
use mathlib.Core.Path.{◌∙◌}
use borrow.Author.Rules.{rules}
use Rattle.cover_groups.specs.means.Groups.{Border-at}
use Rattle.window_groups.specs.means.Halves.{Border-between}
use Rattle.window_groups.proofs.border_between.Goals as goal

pub returns : goal.returns
unfolding Border-between
returns c = record {
  value = let a = c.args in
      c.border_at.ensures.value ∙ λ i. Border-at a.near a.theta (c.midpoint.ensures.value i);
}
