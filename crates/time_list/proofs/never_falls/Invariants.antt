-- `never_falls` meets its contract. Its loop keeps the test of the times from the one before i on.
use Prim.Native.Nat.{◌-◌}
use mathlib.Core.Path.{◌≡◌}
use lib.ListN.{drop}
use Rattle.motion_chain.specs.Times.{never_falls}
use Rattle.time_list.proofs.never_falls.Given as goal

abbrev pub invariant-loop-i : goal.invariant-loop-i
invariant-loop-i l = never_falls (drop (l.i - 1) l.times) ≡ never_falls l.times
