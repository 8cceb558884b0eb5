-- What has to unfold for a given matrix to be decomposed by computing, as one group: a case says `unfolding computing`.
use Rattle.std.specs.Float.Ieee.{is_nan, le}
use Rattle.matrix4x4.specs.float32.MinMax.{max_num}
use Rattle.matrix_inverse.specs.means.Computing as inverse
use Rattle.matrix_quaternion.specs.means.Computing as quaternion
use Rattle.polar_round.specs.PolarRound.{linear_part, mean, row_distance, distance}
use Rattle.decomposition.specs.Polar.{judged_round, polar_round, polar}
use Rattle.decomposition.specs.Decompose.{Decomposition-judged, scale_by, parts, finish, Matrix4x4-decompose}

unfoldable pub computing : Unit {0}
unfolding is_nan le max_num inverse.computing quaternion.computing linear_part mean row_distance distance judged_round polar_round polar Decomposition-judged scale_by
    parts finish Matrix4x4-decompose
computing = tt
