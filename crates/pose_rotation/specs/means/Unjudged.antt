-- The matrix of a quaternion with no interval judged: the formula's nine products first, then what follows them. Definitions only.
use Rattle.std.specs.Prelude.{List, [], ◌∷◌, Float}
use Rattle.float32.specs.Operators.{◌⊕◌}
use Rattle.interval.specs.declared.Interval.{Interval}
use Rattle.interval_unjudged.specs.formula.Enclose.{unbound, enclosure}
use Rattle.interval_unjudged.specs.means.Ordered.{Interval-mul_ordered, Interval-ends_sum}
use Rattle.interval_unjudged.specs.means.Unjudged.{Program-unjudged}
use Rattle.interval_unjudged.specs.means.After.{Program-after}
use Rattle.pose_steps.specs.declared.IntervalQuaternion.{IntervalQuaternion}
use Rattle.pose_steps.specs.declared.IntervalMatrix.{IntervalMatrix}
use Rattle.pose_steps.specs.Stages.{rotation_stage}
use Rattle.pose_steps.specs.Enclose.{JudgedMatrix-of}
use Rattle.pose_rotation.specs.declared.Products.{Products}

unfoldable pub Products-of : IntervalQuaternion → Products
Products-of q =
    record {
      xx = Interval-mul_ordered q.x q.x;
      yy = Interval-mul_ordered q.y q.y;
      zz = Interval-mul_ordered q.z q.z;
      xy = Interval-mul_ordered q.x q.y;
      xz = Interval-mul_ordered q.x q.z;
      yz = Interval-mul_ordered q.y q.z;
      wx = Interval-mul_ordered q.x q.w;
      wy = Interval-mul_ordered q.y q.w;
      wz = Interval-mul_ordered q.z q.w;
    }

abbrev pub Products-list : Products → List Interval
Products-list p = p.xx ∷ p.yy ∷ p.zz ∷ p.xy ∷ p.xz ∷ p.yz ∷ p.wx ∷ p.wy ∷ p.wz ∷ []

unfoldable pub Products-ends_sum : Products → Float
Products-ends_sum p =
    Interval-ends_sum p.xx ⊕ Interval-ends_sum p.yy ⊕ Interval-ends_sum p.zz
    ⊕ (Interval-ends_sum p.xy ⊕ Interval-ends_sum p.xz ⊕ Interval-ends_sum p.yz)
    ⊕ (Interval-ends_sum p.wx ⊕ Interval-ends_sum p.wy ⊕ Interval-ends_sum p.wz)

-- The quaternion itself is not read after its products.
unfoldable pub Pose-unjudged_rotation : Products → IntervalMatrix
Pose-unjudged_rotation p =
    (JudgedMatrix-of (enclosure 0 (Program-unjudged (unbound ∷ unbound ∷ unbound ∷ unbound ∷ Products-list p) (Program-after 9 4 rotation_stage)))).matrix
