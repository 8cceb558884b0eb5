-- Translation and scale with no interval judged. Definitions only.
use Rattle.std.specs.Prelude.{[], ◌∷◌, ◌++◌}
use Rattle.interval.specs.declared.Interval.{Interval}
use Rattle.interval_unjudged.specs.formula.Enclose.{enclosure}
use Rattle.interval_unjudged.specs.means.Unjudged.{Program-unjudged}
use Rattle.pose_steps.specs.declared.IntervalVector.{IntervalVector}
use Rattle.pose_steps.specs.declared.IntervalRow.{IntervalRow}
use Rattle.pose_steps.specs.declared.IntervalMatrix.{IntervalMatrix}
use Rattle.pose_steps.specs.Stages.{translation_stage, scale_row_stage}
use Rattle.pose_steps.specs.Enclose.{IntervalVector-list, IntervalRow-three, JudgedVector-of, JudgedRow-of}

unfoldable pub Pose-unjudged_translation : IntervalVector → IntervalVector → Interval → IntervalVector
Pose-unjudged_translation t0 t1 dt =
    (JudgedVector-of (enclosure 0 (Program-unjudged (IntervalVector-list t0 ++ IntervalVector-list t1 ++ dt ∷ []) translation_stage))).vector

unfoldable pub Pose-unjudged_scale_row : IntervalRow → IntervalRow → Interval → IntervalRow
Pose-unjudged_scale_row s0 s1 dt = (JudgedRow-of (enclosure 0 (Program-unjudged (IntervalRow-three s0 ++ IntervalRow-three s1 ++ dt ∷ []) scale_row_stage))).row

unfoldable pub Pose-unjudged_scale : IntervalMatrix → IntervalMatrix → Interval → IntervalMatrix
Pose-unjudged_scale s0 s1 dt =
    record { r0 = Pose-unjudged_scale_row s0.r0 s1.r0 dt; r1 = Pose-unjudged_scale_row s0.r1 s1.r1 dt; r2 = Pose-unjudged_scale_row s0.r2 s1.r2 dt }
