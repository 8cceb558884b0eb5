-- The parts of `slerp` with no interval judged: a combination of two quaternions, a squared length, a quotient;
-- and in floats the quaternion that far slerp turns the first one to, and the first one turned. Definitions only.
use Rattle.std.specs.Prelude.{Float}
use Rattle.std.specs.Float.{binary32}
use Rattle.square_root.specs.SquareRoot.{sqrt}
use Rattle.float32.specs.Operators.{◌⊕◌, ◌⊖◌, ◌⊗◌, ◌⊘◌}
use Rattle.quaternion.specs.declared.Quaternion.{Quaternion}
use Rattle.interval.specs.declared.Interval.{Interval}
use Rattle.interval.specs.Enclosure.{Interval-add_enclosure}
use Rattle.interval_unjudged.specs.means.Ordered.{Interval-mul_ordered, Interval-div_ordered}
use Rattle.pose_steps.specs.declared.IntervalQuaternion.{IntervalQuaternion}
use Rattle.pose_slerp.specs.declared.Perpendicular.{Perpendicular}

abbrev pub weighed : Interval → Interval → Interval → Interval → Interval
weighed X a Y b = Interval-add_enclosure (Interval-mul_ordered X a) (Interval-mul_ordered Y b)

-- p a + q b
unfoldable pub IntervalQuaternion-combination : IntervalQuaternion → IntervalQuaternion → Interval → Interval → IntervalQuaternion
IntervalQuaternion-combination p q a b =
    record { x = weighed p.x a q.x b; y = weighed p.y a q.y b; z = weighed p.z a q.z b; w = weighed p.w a q.w b }

abbrev pub squares : Interval → Interval → Interval → Interval → Interval
squares x y z w =
    Interval-add_enclosure (Interval-add_enclosure (Interval-add_enclosure (Interval-mul_ordered x x) (Interval-mul_ordered y y)) (Interval-mul_ordered z z))
    (Interval-mul_ordered w w)

-- self.dot(self)
unfoldable pub IntervalQuaternion-squared : IntervalQuaternion → Interval
IntervalQuaternion-squared q = squares q.x q.y q.z q.w

unfoldable pub IntervalQuaternion-quotient : IntervalQuaternion → Interval → IntervalQuaternion
IntervalQuaternion-quotient q n =
    record { x = Interval-div_ordered q.x n; y = Interval-div_ordered q.y n; z = Interval-div_ordered q.z n; w = Interval-div_ordered q.w n }

-- let qperp = (*q2 - *q1 * cos_theta).normalize(), and the length that it is divided by
abbrev pub length : Float → Float → Float → Float → Float
length x y z w = sqrt binary32 (x ⊗ x ⊕ y ⊗ y ⊕ z ⊗ z ⊕ w ⊗ w)

unfoldable pub Perpendicular-of : Quaternion → Quaternion → Float → Perpendicular
Perpendicular-of q1 q2 cos_theta =
    let x = q2.v.x ⊖ q1.v.x ⊗ cos_theta in
    let y = q2.v.y ⊖ q1.v.y ⊗ cos_theta in
    let z = q2.v.z ⊖ q1.v.z ⊗ cos_theta in
    let w = q2.w ⊖ q1.w ⊗ cos_theta in
    let n = length x y z w in
    record { q = record { v = record { x = x ⊘ n; y = y ⊘ n; z = z ⊘ n }; w = w ⊘ n }; length = n }

-- q1 * thetap.cos() + qperp * thetap.sin()
abbrev pub Quaternion-turned : Quaternion → Quaternion → Float → Float → Quaternion
Quaternion-turned p q sin cos =
    record {
      v = record { x = p.v.x ⊗ cos ⊕ q.v.x ⊗ sin; y = p.v.y ⊗ cos ⊕ q.v.y ⊗ sin; z = p.v.z ⊗ cos ⊕ q.v.z ⊗ sin };
      w = p.w ⊗ cos ⊕ q.w ⊗ sin;
    }
