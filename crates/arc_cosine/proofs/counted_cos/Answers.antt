-- In the first quarter by `cos-first`, in the second by `cos-second`; H is at most 1, so that nothing wraps.
use mathlib.Core.Path.{refl, sym, ap, ◌∙◌}
use Prim.Native.Nat.{ℕ, ◌+◌, ◌-◌, ◌^◌}
use native.Mathlib.Omega.{arith}
use Rattle.sine_table.specs.Table.{quarter_turn}
use Rattle.trig.proofs.Units.{read, cos-first, cos-second}
use Rattle.arc_cosine.proofs.counted_cos.Goals as goal

pub overflow_add-result : goal.overflow_add-result
overflow_add-result c =
    let t = read c.entries.result.now c.entries.ensures.value (quarter_turn - c.args.u) c.quarter_sine_in.result (omega arith) c.quarter_sine_in.ensures.value in
    omega (arith, t.small)

pub returns-then-u-lt-QUARTER_TURN : goal.returns-then-u-lt-QUARTER_TURN
returns-then-u-lt-QUARTER_TURN c = let t = read c.entries.result.now c.entries.ensures.value (quarter_turn - c.args.u) c.quarter_sine_in.result (omega arith) c.quarter_sine_in.ensures.value in record { value = ap (λ (r : ℕ). 2 ^ 30 + r) t.value ∙ sym (cos-first c.args.u (omega arith)); counted = refl }

pub overflow_sub-result : goal.overflow_sub-result
overflow_sub-result c =
    let t = read c.entries-2.result.now c.entries-2.ensures.value (c.args.u - quarter_turn) c.quarter_sine_in-2.result (omega arith) c.quarter_sine_in-2.ensures.value in
    t.small

pub returns : goal.returns
returns c = let t = read c.entries-2.result.now c.entries-2.ensures.value (c.args.u - quarter_turn) c.quarter_sine_in-2.result (omega arith) c.quarter_sine_in-2.ensures.value in record { value = ap (λ (r : ℕ). 2 ^ 30 - r) t.value ∙ sym (cos-second c.args.u (omega arith) (omega arith)); counted = refl }
