-- The lines of a kept move's two poses, as the code that puts one after the other says it. No promise cites them. Definitions only.
use Rattle.std.specs.Prelude.{List, Float}
use Rattle.motion_text.specs.matrix4x4.Rows.{Rows}
use Rattle.chain_rows.specs.motion_rows.Rows.{AnimatedTransform-from_rows}
use Rattle.kept_poses.specs.built_poses.Poses.{AnimatedTransform-start_pose, AnimatedTransform-end_pose}
use Rattle.chain_text.specs.Write.{Pose-values}

abbrev pub Rows-start_values : Rows → List Float
Rows-start_values rows = Pose-values (AnimatedTransform-start_pose (AnimatedTransform-from_rows rows))

abbrev pub Rows-end_values : Rows → List Float
Rows-end_values rows = Pose-values (AnimatedTransform-end_pose (AnimatedTransform-from_rows rows))
