-- `first_refusal` meets its contract. Its loop keeps the number of the times that are left, asked of the moves that are left: that of all.
use Prim.Native.Nat.{◌≤◌}
use mathlib.Core.Path.{◌≡◌}
use lib.ListN.{length, drop}
use Rattle.time_list.specs.motion_chain.Times.{PointsAnswer-refusal, points_at}
use Rattle.chain_times.proofs.Stretches.{asked_from}
use Rattle.chain_times.proofs.first_refusal.Given as goal

abbrev pub invariant-loop-i : goal.invariant-loop-i
invariant-loop-i l =
    (l.from ≤ length l.times)
    × (PointsAnswer-refusal (points_at (asked_from l.moves l.p l.i) (drop l.from l.times)) ≡ PointsAnswer-refusal (points_at (asked_from l.moves l.p 0) l.times))
