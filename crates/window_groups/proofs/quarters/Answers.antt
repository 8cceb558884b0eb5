-- `quarters` meets its contract: the two borders that are known and three more, end by end.
use mathlib.Core.Path.{◌≡◌, ◌∙◌}
use borrow.Author.Rules.{rules}
use Rattle.cover_groups.specs.declared.Border.{Border}
use Rattle.cover_groups.specs.means.Groups.{LanesBorders-from, LanesBorders-of}
use Rattle.window_groups.specs.means.Halves.{Border-between, LanesBorders-quarters}
use Rattle.window_groups.proofs.Lanewise.{between-dt}
use Rattle.window_groups.proofs.quarters.Goals as goal

pub returns : goal.returns
unfolding LanesBorders-from LanesBorders-of LanesBorders-quarters Border-between
returns c = record {
  value = let a = c.args in
      let n = a.near in
      let th = a.theta in
      let m = c.border_between-mid.ensures.value in
      let mid = between-dt n th a.from.dt a.to.dt m in
      let b = c.border_between-b.ensures.value ∙ λ i. Border-between n th a.from.dt (mid i) in
      let d = c.border_between-d.ensures.value ∙ λ i. Border-between n th (mid i) a.to.dt in
      (λ i. LanesBorders-from (c.ends-dt.ensures.value i) (c.ends-cos.ensures.value i) (c.ends-sin.ensures.value i))
      ∙ λ i. LanesBorders-of (c.requires.from i) (b i) (m i) (d i) (c.requires.to i);
}
