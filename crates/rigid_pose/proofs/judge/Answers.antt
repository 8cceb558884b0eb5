-- `judge` meets its contract: its tests are the definition's.
use mathlib.Core.Path.{◌≡◌, sym}
use mathlib.Core.Bool.{true, false, ◌||◌}
use lib.Ieee.{lt}
use Rattle.matrix4x4.specs.Rows.{Rows, positive_zero}
use Rattle.transform.specs.HasScale.{Matrix4x4-has_scale}
use Rattle.rigid_pose.specs.Rigid.{Matrix4x4-has_shear, Matrix4x4-determinant, Matrix4x4-rigid_number}
use Rattle.rigid_pose.proofs.judge.Goals as goal

distorted : (m : Rows) → (Matrix4x4-has_scale m || Matrix4x4-has_shear m) ≡ true → Matrix4x4-rigid_number m ≡ 17
unfolding Matrix4x4-rigid_number
distorted m e = rw e

proper : (m : Rows)
    → (Matrix4x4-has_scale m || Matrix4x4-has_shear m) ≡ false → lt positive_zero (Matrix4x4-determinant m) ≡ true
    → Matrix4x4-rigid_number m ≡ 0
unfolding Matrix4x4-rigid_number
proper m e f = rw (e, f)

mirrored : (m : Rows)
    → (Matrix4x4-has_scale m || Matrix4x4-has_shear m) ≡ false → lt positive_zero (Matrix4x4-determinant m) ≡ false
    → Matrix4x4-rigid_number m ≡ 18
unfolding Matrix4x4-rigid_number
mirrored m e f = rw (e, f)

pub returns-then-distorts : goal.returns-then-distorts
returns-then-distorts c = record { value = sym (distorted c.args.m (rw (c.has_shear.ensures.value, c.has_scale.ensures.value) at c.if-distorts.true)) }

pub returns-then-proper : goal.returns-then-proper
returns-then-proper c = record {
  value = sym
      (proper c.args.m
      (rw (c.has_shear.ensures.value, c.has_scale.ensures.value) at c.if-distorts.false)
      (rw c.determinant-proper.ensures.value at c.if-proper.true));
}

pub returns-else-proper : goal.returns-else-proper
returns-else-proper c = record {
  value = sym
      (mirrored c.args.m
      (rw (c.has_shear.ensures.value, c.has_scale.ensures.value) at c.if-distorts.false)
      (rw c.determinant-proper.ensures.value at c.if-proper.false));
}
