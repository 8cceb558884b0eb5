-- What comes of a neighbouring pair of poses, as the code that builds one after the other says it. Definitions only.
use Rattle.std.specs.Prelude.{Bool}
use Rattle.lent_arrays.specs.matrix4x4.Rows.{Rows}
use Rattle.lent_arrays.specs.pose_pair.declared.Pose.{Pose}
use Rattle.animated_transform.specs.New.{AnimatedTransform-new}
use Rattle.animated_transform.specs.Built.{Built}
use Rattle.motion_rows.specs.Rows.{AnimatedTransform-to_rows}

-- the rows of its move
abbrev pub Pair-rows : Bool → Pose × Pose → Rows
Pair-rows rigid (p, q) = AnimatedTransform-to_rows (AnimatedTransform-new rigid p q).value

abbrev pub Pair-Built : Bool → Pose × Pose → Type 0
Pair-Built rigid (p, q) = Built (AnimatedTransform-new rigid p q).value
