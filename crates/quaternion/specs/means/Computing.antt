-- What has to unfold for an operation on given quaternions to compute, as one group: a case says `unfolding computing`. The arc cosine's search is not in it.
use Rattle.std.specs.Float.Ieee.{add, sub, mul, div, neg, lt, round, of_bits}
use Rattle.float32.specs.Clamp.{clamp}
use Rattle.square_root.specs.SquareRoot.{isqrt_below, isqrt, sticky_sqrt, round_sqrt, sqrt}
use Rattle.trig.specs.means.Computing as trig
use Rattle.quaternion.specs.Quaternion.{Quaternion-dot, Quaternion-normalize, Quaternion-add}
use Rattle.quaternion.specs.Quaternion.{Quaternion-sub, Quaternion-neg, Quaternion-mul, Quaternion-div}
use Rattle.quaternion.specs.IsFinite.{Quaternion-is_finite}
use Rattle.quaternion.specs.Slerp.{slerp_near, slerp_far, slerp_by, Quaternion-slerp}

unfoldable pub computing : Unit {0}
unfolding add sub mul div neg lt round of_bits clamp isqrt_below isqrt sticky_sqrt round_sqrt sqrt trig.computing Quaternion-dot Quaternion-normalize Quaternion-add
    Quaternion-sub Quaternion-neg Quaternion-mul Quaternion-div Quaternion-is_finite slerp_near slerp_far slerp_by Quaternion-slerp
computing = tt
