-- `reach_next` meets its contract: the boxes by the borders from the known one on, and the last of these borders.
use mathlib.Core.Path.{◌∙◌}
use borrow.Author.Rules.{rules}
use Rattle.cover_groups.specs.means.Groups.{LanesVector-pieces, Border-last}
use Rattle.cover_groups.proofs.reach_next.Goals as goal

pub returns : goal.returns
returns c = let a = c.args in let g = c.borders_from-g.ensures.value in record {
  joined = c.join_pieces-union.ensures.value
      ∙ (λ i. LanesVector-pieces a.a a.second a.s0 a.s1 a.pad0 a.pad1 a.p (g i) a.reached.union);
  next = c.last-from.ensures.value ∙ λ i. Border-last (g i);
}
