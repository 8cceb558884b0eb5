-- `composed_in_order` meets its contract: the two products in the order of the definition, then one test.
use mathlib.Core.Path.{sym, ap}
use mathlib.Core.Bool.{Bool, cond}
use Rattle.transform.specs.Transform.{TransformAnswer-refused}
use Rattle.interpolation.specs.Interpolate.{scaled, composed}
use borrow.Author.Rules.{rules}
use Rattle.matrix4x4.proofs.is_finite.Reads as is-finite-reads'
use Rattle.interpolation.proofs.composed_in_order.Goals as goal

pub returns-then-finite : goal.returns-then-finite
unfolding composed
returns-then-finite c = record {
  value = rw (c.scaled.ensures.value, ← c.translate-translation.ensures.value, ← c.transform_from_quaternion-rotation.ensures.value, ← c.mul-first.ensures, ← c.to_rows.ensures.value)
      (sym (ap (λ (b : Bool). cond b (scaled c.mul-first.result c.to_rows.result) (TransformAnswer-refused 5))
      (rw (c.is_finite.ensures.value, c.is_finite-2.ensures.value, c.is_finite-3.ensures.value, c.is_finite-4.ensures.value, c.is_finite-5.ensures.value) at c.if-finite.true)));
}

pub returns-else-finite : goal.returns-else-finite
unfolding composed
returns-else-finite c = record {
  value = rw (← c.translate-translation.ensures.value, ← c.transform_from_quaternion-rotation.ensures.value, ← c.mul-first.ensures, ← c.to_rows.ensures.value)
      (sym (ap (λ (b : Bool). cond b (scaled c.mul-first.result c.to_rows.result) (TransformAnswer-refused 5))
      (rw (c.is_finite.ensures.value, c.is_finite-2.ensures.value, c.is_finite-3.ensures.value, c.is_finite-4.ensures.value, c.is_finite-5.ensures.value) at c.if-finite.false)));
}
