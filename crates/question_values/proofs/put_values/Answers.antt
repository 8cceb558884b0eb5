-- `put_values` copies the floats where there are enough.
use Prim.Native.Nat.{◌+◌, ◌-◌}
use native.Mathlib.Omega.{arith}
use mathlib.Core.Path.{◌≡◌, ◌∙◌}
use lib.ListN.{length}
use Rattle.question_values.proofs.Places.{left-few, left-enough}
use Rattle.question_values.proofs.put_values.Goals as goal

pub returns-then-values-out : goal.returns-then-values-out
returns-then-values-out c = record {
  left = let a = c.args in
      left-few a.values.now a.at a.out.now (omega (arith, c.if-values-out.true));
}

pub returns-then-values-out-2 : goal.returns-then-values-out-2
returns-then-values-out-2 c = record {
  left = let a = c.args in
      left-few a.values.now a.at a.out.now (omega (arith, c.if-values-out-2.true));
}

pub returns : goal.returns
returns c = record {
  left = let a = c.args in
      let size : a.at + length a.out.now - a.at ≡ length a.out.now = omega arith in
      (rw size at c.copy_from_slice.ensures.after) ∙ left-enough a.values.now a.at a.out.now (omega arith);
}
