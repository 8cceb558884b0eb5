-- The moved point with no interval judged. Definitions only.
use Rattle.std.specs.Prelude.{◌++◌}
use Rattle.interval_unjudged.specs.formula.Enclose.{enclosure}
use Rattle.interval_unjudged.specs.means.Unjudged.{Program-unjudged}
use Rattle.pose_steps.specs.declared.IntervalVector.{IntervalVector}
use Rattle.pose_steps.specs.declared.IntervalMatrix.{IntervalMatrix}
use Rattle.pose_steps.specs.Stages.{transform_point_stage}
use Rattle.pose_steps.specs.Enclose.{IntervalVector-list, IntervalMatrix-list, JudgedVector-of}

unfoldable pub Pose-unjudged_transform_point : IntervalMatrix → IntervalVector → IntervalVector
Pose-unjudged_transform_point a p = (JudgedVector-of (enclosure 0 (Program-unjudged (IntervalMatrix-list a ++ IntervalVector-list p) transform_point_stage))).vector
