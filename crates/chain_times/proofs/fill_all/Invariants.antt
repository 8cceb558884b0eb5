-- `fill_all` meets its contract. Its loop keeps what is written up to the stretch of move i, with the floats of the times that are left: the floats of all.
use Prim.Native.Nat.{◌*◌, ◌≤◌}
use mathlib.Core.Path.{◌≡◌}
use mathlib.Core.List.{◌++◌}
use lib.ListN.{length, take, drop}
use Rattle.time_list.specs.motion_chain.Times.{places_per_time}
use Rattle.stretch_points.specs.Points.{floats_at}
use Rattle.chain_times.proofs.Stretches.{asked_from}
use Rattle.chain_times.proofs.fill_all.Given as goal

abbrev pub invariant-loop-i : goal.invariant-loop-i
invariant-loop-i l =
    (l.from ≤ length l.times)
    × (length l.answers ≡ places_per_time * length l.times)
    × (take (3 * l.from) l.answers ++ floats_at (asked_from l.moves l.p l.i) (drop l.from l.times) ≡ floats_at (asked_from l.moves l.p 0) l.times)
