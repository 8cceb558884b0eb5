-- `composed` meets its contract: where the last product is finite, all that stands before it is (`composed-tested`).
use Rattle.matrix4x4.specs.Rows.{Matrix4x4-to_rows}
use Rattle.interpolation.proofs.Operands.{composed-tested}
use Rattle.interpolation.proofs.composed.Goals as goal

pub returns-then-is_finite : goal.returns-then-is_finite
returns-then-is_finite c = record {
  value = let a = c.args in
      let s = rw c.to_rows.ensures.value at c.in-Ok.ensures.value in
      composed-tested a.trans a.rotate (Matrix4x4-to_rows a.scale) c.mul-last.result
      (rw (← s))
      (rw (c.mul-last.ensures, ← s, c.mul-first.ensures, c.transform_from_quaternion-rotation.ensures.value, c.translate-translation.ensures.value))
      (rw c.is_finite.ensures.value at c.if-is_finite.true);
}

pub returns : goal.returns
returns c = record { value = c.composed_in_order.ensures.value }
