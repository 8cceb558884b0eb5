-- `newton` meets its contract, by the clauses of its definition.
-- The loop's invariant: the steps that are left, from t, lead to where all four do from the start.
use mathlib.Core.Path.{◌≡◌, refl, sym, ◌∙◌}
use Prim.Native.Nat.{ℕ, ◌+◌, ◌-◌}
use native.Mathlib.Omega.{arith}
use lib.Ieee.{Float}
use Rattle.trig.specs.float32.Operators.{◌⊗◌, two}
use Rattle.trig.specs.declared.SinCos.{SinCos}
use Rattle.motion_derivative.specs.declared.MotionDerivative.{MotionDerivative}
use Rattle.motion_derivative.specs.Derivative.{MotionDerivative-value_at, MotionDerivative-slope_at}
use Rattle.newton_method.specs.means.NewtonOver.{SinCosOver, asked_angle, value_over, slope_over}
use Rattle.newton_method.proofs.Clauses.{newton-none, newton-stops, newton-steps}
use Rattle.newton_method.proofs.newton.Goals as goal

value-known : (T : ℕ → ℕ) (f : MotionDerivative) (t : Float) (s : SinCos) → SinCosOver T s (two ⊗ f.theta ⊗ t)
    → MotionDerivative-value_at f t s.sin s.cos ≡ value_over T f t
unfolding value_over
value-known T f t s h = rw (h.0, h.1)

slope-known : (T : ℕ → ℕ) (f : MotionDerivative) (t : Float) (s : SinCos) → SinCosOver T s (asked_angle (two ⊗ f.theta ⊗ t) (two ⊗ t ⊗ f.theta))
    → MotionDerivative-slope_at f t s.sin s.cos ≡ slope_over T f t
unfolding slope_over
slope-known T f t s h = rw (h.0, h.1)

pub loop-init : goal.loop-init
loop-init c = (omega arith, refl)

pub sin_cos_beside-beside-requires : goal.sin_cos_beside-beside-requires
sin_cos_beside-beside-requires c =
    c.sin_cos_in-angle.ensures.value

pub returns-then-value-slope : goal.returns-then-value-slope
returns-then-value-slope c = record {
  value = let loop = c.loop in
      let v = c.value_at-value.ensures.value ∙ value-known _ _ _ _ c.sin_cos_in-angle.ensures.value in
      let s = c.slope_at-slope.ensures.value ∙ slope-known _ _ _ _ c.sin_cos_beside-beside.ensures.value in
      sym (newton-stops _ _ (4 - loop.counter) _ _ _ v s c.if-value-slope.true) ∙ loop.invariant.1;
}

pub overflow_step : goal.overflow_step
overflow_step c = omega arith

pub loop-smaller : goal.loop-smaller
loop-smaller c = omega arith

pub loop-preserved : goal.loop-preserved
loop-preserved c =
    let loop = c.loop in
    let k = loop.counter in
    let v = c.value_at-value.ensures.value ∙ value-known _ _ _ _ c.sin_cos_in-angle.ensures.value in
    let s = c.slope_at-slope.ensures.value ∙ slope-known _ _ _ _ c.sin_cos_beside-beside.ensures.value in
    let one_less : 4 - (k + 1) ≡ 4 - k - 1 = omega arith in
    (omega arith, rw one_less (sym (newton-steps _ _ (4 - k) _ _ _ (λ z. omega (arith, z)) v s c.if-value-slope.false) ∙ loop.invariant.1))

pub returns : goal.returns
returns c = record {
  value = let loop = c.loop in
      let none : 4 - loop.counter ≡ 0 = omega arith in
      sym (newton-none _ _ _) ∙ (rw none at loop.invariant.1);
}
