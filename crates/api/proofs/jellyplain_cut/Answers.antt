-- `jellyplain_cut` meets its contract: the parts of the box in the array.
use borrow.Author.Rules.{rules}
use Rattle.api.proofs.jellyplain_cut.Goals as goal

pub returns : goal.returns
returns c = record { refusal = rw c.bounds.ensures.value at c.cut.ensures.refusal; left = rw c.bounds.ensures.value at c.cut.ensures.left; parts_within = rw c.bounds.ensures.value at c.cut.ensures.parts_within; parts_cover = rw c.bounds.ensures.value at c.cut.ensures.parts_cover }
