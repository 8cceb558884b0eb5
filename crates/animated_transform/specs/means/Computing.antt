-- What has to unfold for a move of given poses to be built by computing, as one group: a case says `unfolding computing`. The arc cosine's search is not in it.
use Rattle.pose_pair.specs.means.Computing as poses
use Rattle.transform.specs.means.Computing as transform
use Rattle.decomposition.specs.means.Computing as decomposition
use Rattle.rotation_arc.specs.means.Computing as arc
use Rattle.animated_transform.specs.New.{AnimatedTransform-from_parts, AnimatedTransform-from_poses, AnimatedTransform-new}

unfoldable pub computing : Unit {0}
unfolding poses.computing transform.computing decomposition.computing arc.computing AnimatedTransform-from_parts AnimatedTransform-from_poses
    AnimatedTransform-new
computing = tt
