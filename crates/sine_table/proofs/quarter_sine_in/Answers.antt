-- Between two entries by the definition; from a quarter turn on, the last entry by `quarter_sine_over-one`.
use mathlib.Core.Path.{◌≡◌, sym, ap, ◌∙◌}
use Prim.Native.Nat.{min}
use native.Mathlib.Omega.{arith}
use Rattle.sine_table.specs.Table.{quarter_turn}
use Rattle.sine_table.specs.QuarterSine.{quarter_sine_over, entry}
use Rattle.sine_table.proofs.QuarterSine.{quarter_sine_over-one}
use Rattle.sine_table.proofs.quarter_sine_in.Goals as goal

pub returns-then-v-ge-QUARTER_TURN : goal.returns-then-v-ge-QUARTER_TURN
returns-then-v-ge-QUARTER_TURN c = record {
  value = let a = c.args in
      c.wide.ensures ∙ sym (quarter_sine_over-one (entry a.table.now))
      ∙ ap (quarter_sine_over (entry a.table.now)) (let e : quarter_turn ≡ min a.v quarter_turn = omega arith in e);
}

pub returns : goal.returns
returns c = record {
  value = let a = c.args in
      c.wide-2.ensures ∙ c.interpolate.ensures.value
      ∙ unfold quarter_sine_over in ap (quarter_sine_over (entry a.table.now)) (let e : a.v ≡ min a.v quarter_turn = omega arith in e);
}
