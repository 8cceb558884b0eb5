-- What has to unfold for a search on given coefficients to compute, as one group: a case says `unfolding computing`.
use Rattle.interval.specs.means.Computing as interval
use Rattle.motion_derivative.specs.Derivative.{affine, MotionDerivative-range_at, MotionDerivative-excludes_zero_at, MotionDerivative-excludes_zero}
use Rattle.motion_derivative.specs.Derivative.{MotionDerivative-value_at, MotionDerivative-value}
use Rattle.motion_derivative.specs.Derivative.{MotionDerivative-slope_at, MotionDerivative-slope, MotionDerivative-newton}
use Rattle.zero_search.specs.Search.{search, Search-judged, interval_find_zeros}
use Rattle.zero_list.specs.Zeros.{Zeros-store, Zeros-accept}

unfoldable pub computing : Unit {0}
unfolding interval.computing affine MotionDerivative-range_at MotionDerivative-excludes_zero_at MotionDerivative-excludes_zero MotionDerivative-value_at
    MotionDerivative-value MotionDerivative-slope_at MotionDerivative-slope MotionDerivative-newton Zeros-store Zeros-accept search Search-judged
    interval_find_zeros
computing = tt
