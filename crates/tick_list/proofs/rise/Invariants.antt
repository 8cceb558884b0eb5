-- `rise` meets its contract. Its loop keeps the test of the ticks from the one before i on.
use Prim.Native.Nat.{◌-◌}
use mathlib.Core.Path.{◌≡◌}
use lib.ListN.{drop}
use Rattle.tick_list.specs.Ticks.{Ticks-rise}
use Rattle.tick_list.proofs.rise.Given as goal

abbrev pub invariant-loop-i : goal.invariant-loop-i
invariant-loop-i l = Ticks-rise (drop (l.i - 1) l.ticks) ≡ Ticks-rise l.ticks
