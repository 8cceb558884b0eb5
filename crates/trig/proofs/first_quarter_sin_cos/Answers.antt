-- The two entries' lines as floats, by the rule of the first quarter (`sin-first`, `cos-first`).
use mathlib.Core.Path.{◌≡◌, sym, ap, ◌∙◌}
use mathlib.Core.Bool.{false}
use Prim.Native.Nat.{ℕ, ◌^◌, min}
use native.Mathlib.Omega.{arith}
use lib.Ieee.{binary32, round}
use Rattle.sine_table.specs.Table.{quarter_turn}
use Rattle.sine_table.specs.QuarterSine.{quarter_sine_over, entry}
use Rattle.trig.specs.Units.{nearest_float}
use Rattle.trig.proofs.FirstQuarter.{sin-first, cos-first}
use Rattle.trig.proofs.first_quarter_sin_cos.Goals as goal

pub returns : goal.returns
unfolding nearest_float
returns c = let a = c.args in let T = entry a.table.now in let h = c.quarter_sin_cos_in-h in record {
  sin = c.from_units.ensures.value ∙ ap (λ (n : ℕ). round binary32 false n (2 ^ 30)) h.ensures.sin
      ∙ ap (λ (v : ℕ). round binary32 false (quarter_sine_over T v) (2 ^ 30)) (let e : min a.u quarter_turn ≡ a.u = omega arith in e)
      ∙ ap nearest_float (sym (sin-first T a.u (omega arith)));
  cos = c.from_units-2.ensures.value ∙ ap (λ (n : ℕ). round binary32 false n (2 ^ 30)) h.ensures.cos
      ∙ ap nearest_float (sym (cos-first T a.u (omega arith)));
}
