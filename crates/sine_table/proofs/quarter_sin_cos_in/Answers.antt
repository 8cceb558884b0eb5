-- Between two entries by the definition, and a quarter turn less by `quarter_sine_over-rest`; from a quarter turn on, the last entry and the first.
use mathlib.Core.Path.{◌≡◌, sym, ap, ◌∙◌}
use Prim.Native.Nat.{◌-◌, min}
use native.Mathlib.Omega.{arith}
use Rattle.sine_table.specs.Table.{quarter_turn}
use Rattle.sine_table.specs.QuarterSine.{quarter_sine_over, entry}
use Rattle.sine_table.proofs.QuarterSine.{quarter_sine_over-zero, quarter_sine_over-one, quarter_sine_over-rest}
use Rattle.sine_table.proofs.quarter_sin_cos_in.Goals as goal

pub returns-then-v-ge-QUARTER_TURN : goal.returns-then-v-ge-QUARTER_TURN
returns-then-v-ge-QUARTER_TURN c = let a = c.args in let T = entry a.table.now in record { sin = sym (quarter_sine_over-one T) ∙ ap (quarter_sine_over T) (let e : quarter_turn ≡ min a.v quarter_turn = omega arith in e); cos = sym (quarter_sine_over-zero T) ∙ ap (quarter_sine_over T) (let e : 0 ≡ quarter_turn - a.v = omega arith in e) }

pub returns : goal.returns
returns c = let a = c.args in let T = entry a.table.now in record { sin = c.interpolate.ensures.value ∙ unfold quarter_sine_over in ap (quarter_sine_over T) (let e : a.v ≡ min a.v quarter_turn = omega arith in e); cos = c.interpolate-2.ensures.value ∙ sym (quarter_sine_over-rest T a.v (omega arith)) }
