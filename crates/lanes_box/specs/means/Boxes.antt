-- The union of boxes by comparisons alone, and that of four boxes side by side. Definitions only.
use Rattle.bounds3.specs.declared.Bounds3f.{Bounds3f}
use Rattle.lanes_rotation.specs.pose_steps.declared.IntervalVector.{IntervalVector}
use Rattle.lanes_rotation.specs.pose_steps.Enclose.{IntervalVector-bounds}
use Rattle.lanes.specs.means.Lanes.{Interval-join, Lanes-joined}
use Rattle.lanes_rotation.specs.declared.LanesVector.{LanesVector}

unfoldable pub IntervalVector-join : IntervalVector → IntervalVector → IntervalVector
IntervalVector-join u v = record { x = Interval-join u.x v.x; y = Interval-join u.y v.y; z = Interval-join u.z v.z }

unfoldable pub LanesVector-joined : LanesVector → Bounds3f
LanesVector-joined v = IntervalVector-bounds (record { x = Lanes-joined v.x; y = Lanes-joined v.y; z = Lanes-joined v.z })
