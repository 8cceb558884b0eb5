-- Sums of all ends of intervals, pair by pair. Definitions only.
use Rattle.std.specs.Prelude.{Float}
use Rattle.interval_unjudged.specs.float32.Operators.{◌⊕◌}
use Rattle.interval_unjudged.specs.means.Ordered.{Interval-ends_sum}
use Rattle.pose_steps.specs.declared.IntervalVector.{IntervalVector}
use Rattle.pose_steps.specs.declared.IntervalQuaternion.{IntervalQuaternion}
use Rattle.pose_steps.specs.declared.IntervalRow.{IntervalRow}
use Rattle.pose_steps.specs.declared.IntervalMatrix.{IntervalMatrix}

unfoldable pub IntervalVector-ends_sum : IntervalVector → Float
IntervalVector-ends_sum v = Interval-ends_sum v.x ⊕ Interval-ends_sum v.y ⊕ Interval-ends_sum v.z

unfoldable pub IntervalQuaternion-ends_sum : IntervalQuaternion → Float
IntervalQuaternion-ends_sum q = Interval-ends_sum q.x ⊕ Interval-ends_sum q.y ⊕ (Interval-ends_sum q.z ⊕ Interval-ends_sum q.w)

unfoldable pub IntervalRow-ends_sum : IntervalRow → Float
IntervalRow-ends_sum a = Interval-ends_sum a.c0 ⊕ Interval-ends_sum a.c1 ⊕ (Interval-ends_sum a.c2 ⊕ Interval-ends_sum a.c3)

unfoldable pub IntervalMatrix-ends_sum : IntervalMatrix → Float
IntervalMatrix-ends_sum m = IntervalRow-ends_sum m.r0 ⊕ IntervalRow-ends_sum m.r1 ⊕ IntervalRow-ends_sum m.r2
