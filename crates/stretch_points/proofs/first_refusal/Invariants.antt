-- `first_refusal` meets its contract. Its loop keeps the number of the times from the index on: that of all.
use mathlib.Core.Path.{◌≡◌}
use lib.ListN.{drop}
use Rattle.motion_chain.specs.Times.{PointsAnswer-refusal}
use Rattle.stretch_points.specs.Points.{Rows-transform_points}
use Rattle.stretch_points.proofs.first_refusal.Given as goal

abbrev pub invariant-loop-time : goal.invariant-loop-time
invariant-loop-time l =
    PointsAnswer-refusal (Rows-transform_points l.motion (drop l.time-index l.times) l.p) ≡ PointsAnswer-refusal (Rows-transform_points l.motion l.times l.p)
