-- `grow_box` meets its contract: whether the grown faces are finite.
use Rattle.motion_pad.proofs.Tested.{faces-finite, faces-infinite}
use Rattle.motion_pad.proofs.grow_box.Goals as goal

pub returns-then-is_finite : goal.returns-then-is_finite
returns-then-is_finite c = record {
  value = faces-finite c.args.pad c.args.b c.grown-faces.ensures.value c.is_finite.ensures.value c.if-is_finite.true;
}

pub returns-else-is_finite : goal.returns-else-is_finite
returns-else-is_finite c = record {
  value = faces-infinite c.args.pad c.args.b c.grown-faces.ensures.value c.is_finite.ensures.value c.if-is_finite.false;
}
