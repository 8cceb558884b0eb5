-- `times` meets its contract: from the lesser to the greater of the products by both ends.
use mathlib.Core.Path.{◌∙◌}
use Rattle.lanes.specs.means.Lanes.{Lanes-lane, Lanes-of, Lanes-span}
use Rattle.lanes.proofs.Constant.{times-lanes}
use Rattle.lanes.proofs.times.Goals as goal

pub returns : goal.returns
unfolding Lanes-span Lanes-of Lanes-lane
returns c = record {
  value = let a = c.args in
      c.span.ensures.value ∙ rw (c.mul4-h.ensures.value, c.mul4-l.ensures.value, c.all-by.ensures.value) (times-lanes a.x a.a);
}
