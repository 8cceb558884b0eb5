-- `newton` meets its contract, by the clauses of its definition.
-- The loop's invariant: the steps that are left, from t, lead to where all four do from the start.
use mathlib.Core.Path.{◌≡◌}
use Prim.Native.Nat.{◌-◌, ◌≤◌}
use Rattle.trig.specs.sine_table.QuarterSine.{entry}
use Rattle.newton_method.specs.means.NewtonOver.{newton_over}
use Rattle.newton_method.proofs.newton.Given as goal

abbrev pub invariant-loop : goal.invariant-loop
invariant-loop l = (l.counter ≤ 4) × (newton_over (entry l.table) l.f (4 - l.counter) l.t ≡ newton_over (entry l.table) l.f 4 l.start)

abbrev pub decreases-loop : goal.decreases-loop
decreases-loop l = 4 - l.counter
