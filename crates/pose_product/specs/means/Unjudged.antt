-- The product's rows with no interval judged. Definitions only.
use Rattle.std.specs.Prelude.{◌++◌}
use Rattle.float32.specs.Operators.{one}
use Rattle.pose_steps.specs.matrix4x4.Rows.{positive_zero}
use Rattle.interval.specs.declared.Interval.{Interval}
use Rattle.interval.specs.Interval.{Interval-point}
use Rattle.interval.specs.Enclosure.{Interval-add_enclosure}
use Rattle.interval_unjudged.specs.means.Ordered.{Interval-mul_ordered}
use Rattle.interval_unjudged.specs.formula.Enclose.{enclosure}
use Rattle.interval_unjudged.specs.means.Unjudged.{Program-unjudged}
use Rattle.pose_steps.specs.declared.IntervalRow.{IntervalRow}
use Rattle.pose_steps.specs.declared.IntervalMatrix.{IntervalMatrix}
use Rattle.pose_steps.specs.declared.IntervalVector.{IntervalVector}
use Rattle.pose_steps.specs.Stages.{mul_row_stage}
use Rattle.pose_steps.specs.Enclose.{IntervalRow-list, IntervalMatrix-list, JudgedRow-of}

unfoldable pub Pose-unjudged_mul_row : IntervalRow → IntervalMatrix → IntervalRow
Pose-unjudged_mul_row a b = (JudgedRow-of (enclosure 0 (Program-unjudged (IntervalRow-list a ++ IntervalMatrix-list b) mul_row_stage))).row

abbrev pub Pose-unjudged_mul : IntervalMatrix → IntervalMatrix → IntervalMatrix
Pose-unjudged_mul a b = record { r0 = Pose-unjudged_mul_row a.r0 b; r1 = Pose-unjudged_mul_row a.r1 b; r2 = Pose-unjudged_mul_row a.r2 b }

infixl 75 ◌⊕◌
abbrev ◌⊕◌ : Interval → Interval → Interval
◌⊕◌ X Y = Interval-add_enclosure X Y

infixl 80 ◌⊗◌
abbrev ◌⊗◌ : Interval → Interval → Interval
◌⊗◌ X Y = Interval-mul_ordered X Y

unfoldable pub IntervalVector-times : IntervalVector → Interval → IntervalVector
IntervalVector-times v c = record { x = v.x ⊗ c; y = v.y ⊗ c; z = v.z ⊗ c }

-- A column of the product of the matrix that adds a vector to a point, where x, y, z are the second matrix's column,
-- and l is the vector times what stands below it.
unfoldable pub Pose-translated_column : IntervalVector → Interval → Interval → Interval → IntervalVector
Pose-translated_column l x y z =
    let 𝟎 : Interval = Interval-point positive_zero in
    let 𝟏 : Interval = Interval-point one in
    record {
      x = (𝟏 ⊗ x ⊕ 𝟎 ⊗ y ⊕ 𝟎 ⊗ z) ⊕ l.x;
      y = (𝟎 ⊗ x ⊕ 𝟏 ⊗ y ⊕ 𝟎 ⊗ z) ⊕ l.y;
      z = (𝟎 ⊗ x ⊕ 𝟎 ⊗ y ⊕ 𝟏 ⊗ z) ⊕ l.z;
    }
