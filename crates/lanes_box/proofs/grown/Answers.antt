-- `grown` meets its contract: three axes, side by side.
use Rattle.lanes.specs.means.Lanes.{Interval-widened}
use Rattle.lanes_rotation.specs.means.Matrices.{LanesVector-of, LanesVector-lane}
use Rattle.lanes_rotation.specs.pose_lean.means.Lean.{Interval-grown, IntervalVector-grown}
use Rattle.lanes_box.proofs.grown.Goals as goal

pub returns : goal.returns
unfolding Interval-widened Interval-grown IntervalVector-grown LanesVector-of LanesVector-lane
returns c = record { value = λ i. record { x = c.widened-x.ensures.value i; y = c.widened-y.ensures.value i; z = c.widened-z.ensures.value i } }
