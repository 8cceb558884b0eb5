-- `fill_stretch` meets its contract. Its loop keeps what the answers are once the points from time i on are put.
use Prim.Native.Nat.{◌*◌}
use mathlib.Core.Path.{◌≡◌}
use lib.ListN.{length, drop}
use Rattle.motion_rows.specs.TransformPoint.{Rows-transform_point}
use Rattle.motion_chain.specs.Times.{places_per_time}
use Rattle.stretch_points.proofs.Fill.{filled}
use Rattle.stretch_points.proofs.fill_stretch.Given as goal

abbrev pub invariant-loop-i : goal.invariant-loop-i
invariant-loop-i l =
    (length l.answers ≡ places_per_time * length l.times)
    × (filled (λ t. Rows-transform_point l.motion t l.p) l.answers l.i (drop l.i l.times) ≡ filled (λ t. Rows-transform_point l.motion t l.p) l.initial.answers 0 l.times)
