-- What has to unfold for the cover of a given move to compute, as one group: a case says `unfolding computing`.
use Rattle.stored_box.specs.pose_steps.means.Computing as pose
use Rattle.stored_box.specs.unit_interval.means.Computing as slice
use Rattle.stored_box.specs.bounds_query.means.Computing as query
use Rattle.motion_pad.specs.means.Computing as pad
use Rattle.motion_cover.specs.Cover.{BoundsAnswer-from_enclosure, Transform-enclose_bounds, Transform-enclose_padded, AnimatedTransform-enclose_bounds}
use Rattle.motion_cover.specs.Cover.{AnimatedTransform-enclose_ends, union_slices, AnimatedTransform-enclose_motion, AnimatedTransform-cover}
use Rattle.stored_box.specs.pose_steps.Pose.{PoseConstants-new}

unfoldable pub computing : Unit {0}
unfolding pose.computing slice.computing query.computing pad.computing PoseConstants-new BoundsAnswer-from_enclosure Transform-enclose_bounds
    Transform-enclose_padded AnimatedTransform-enclose_bounds AnimatedTransform-enclose_ends union_slices AnimatedTransform-enclose_motion AnimatedTransform-cover
computing = tt
