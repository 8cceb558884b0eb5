-- `part` meets its contract: each test is the definition's, and the part's faces are `face`'s.
use Rattle.cut_parts.proofs.Parts.{part-x, part-y, part-z}
use Rattle.cut_parts.proofs.part.Goals as goal

pub returns-then-longest_x : goal.returns-then-longest_x
returns-then-longest_x c = record {
  value = part-x _ _ _ _ _ _ c.longest_x.ensures.value c.if-longest_x.true
      c.face-f.ensures.value c.face-g.ensures.value c.with_x.ensures.value;
}

pub returns-then-longest_y : goal.returns-then-longest_y
returns-then-longest_y c = record {
  value = part-y _ _ _ _ _ _ c.longest_x.ensures.value c.if-longest_x.false c.longest_y.ensures.value c.if-longest_y.true
      c.face-f-then-longest_y.ensures.value c.face-g-then-longest_y.ensures.value c.with_y.ensures.value;
}

pub returns : goal.returns
returns c = record {
  value = part-z _ _ _ _ _ _ c.longest_x.ensures.value c.if-longest_x.false c.longest_y.ensures.value c.if-longest_y.false
      c.face-f-2.ensures.value c.face-g-2.ensures.value c.with_z.ensures.value;
}
