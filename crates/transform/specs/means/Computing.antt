-- What has to unfold for a given transform to be made and applied by computing, as one group: a case says `unfolding computing`.
use Rattle.matrix_inverse.specs.means.Computing as inverse
use Rattle.bounds3.specs.means.Computing as bounds3
use Rattle.transform.specs.Transform.{Transform-from_matrix, Transform-mul, Transform-eq}
use Rattle.transform.specs.TransformPoint.{moved_point, PointAnswer-judged, Transform-transform_point}
use Rattle.transform.specs.TransformVector.{moved_vector}
use Rattle.transform.specs.TransformBounds.{BoundsAnswer-from_moved, BoundsAnswer-union_moved, union_corner, Transform-transform_bounds}
use Rattle.transform.specs.HasScale.{image_squared, Matrix4x4-has_scale}

unfoldable pub computing : Unit {0}
unfolding inverse.computing bounds3.computing Transform-from_matrix Transform-mul Transform-eq moved_point PointAnswer-judged Transform-transform_point moved_vector
    BoundsAnswer-from_moved BoundsAnswer-union_moved union_corner Transform-transform_bounds image_squared Matrix4x4-has_scale
computing = tt
