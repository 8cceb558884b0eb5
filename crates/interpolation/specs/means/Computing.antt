-- What has to unfold for a given move to be interpolated by computing, as one group: a case says `unfolding computing`. The arc cosine's search is not in it.
use Rattle.matrix4x4.specs.float32.Lerp.{lerp}
use Rattle.pose_parts.specs.pose_steps.Composition.{lerp_scale_by}
use Rattle.unit_interval.specs.means.Computing as unit
use Rattle.rotation.specs.means.Computing as rotation
use Rattle.animated_transform.specs.means.Computing as animated
use Rattle.interpolation.specs.Interpolate.{Transform-is_finite, TransformAnswer-judged, scaled, composed}
use Rattle.interpolation.specs.Interpolate.{AnimatedTransform-pose_at, AnimatedTransform-interpolate_by}

unfoldable pub computing : Unit {0}
unfolding lerp lerp_scale_by unit.computing rotation.computing animated.computing Transform-is_finite TransformAnswer-judged scaled composed
    AnimatedTransform-pose_at AnimatedTransform-interpolate_by
computing = tt
