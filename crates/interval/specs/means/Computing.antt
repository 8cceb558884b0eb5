-- What has to unfold for an operation on given intervals to compute, as one group: a case says `unfolding computing`.
use Rattle.std.specs.Float.Ieee.{add, sub, mul, div, neg, is_nan, lt, eq, le, round, of_bits}
use Rattle.float32.specs.MinMax.{min_num, max_num}
use Rattle.square_root.specs.SquareRoot.{isqrt_below, isqrt, sticky_sqrt, round_sqrt, sqrt}
use Rattle.trig.specs.means.Computing as trig
use Rattle.trig.specs.Range.{sin_low, sin_high, cos_low, cos_high}
use Rattle.interval.specs.Interval.{Interval-new, Interval-hull, Interval-of_four, Interval-add, Interval-sub}
use Rattle.interval.specs.Interval.{Interval-mul, Interval-sin_between, Interval-sin, Interval-cos_between, Interval-cos}
use Rattle.interval.specs.Enclosure.{Interval-add_enclosure, Interval-sub_enclosure, Interval-mul_enclosure, Interval-div_enclosure}
use Rattle.interval.specs.Enclosure.{Interval-sqrt_enclosure, Interval-sin_enclosure, Interval-cos_enclosure, not_finite}
use Rattle.interval.specs.Enclosure.{not_positive, Judged-judge, Judged-add_enclosure, Judged-sub_enclosure, Judged-mul_enclosure}
use Rattle.interval.specs.Enclosure.{Judged-div_enclosure, Judged-sqrt_enclosure, Judged-sin_enclosure, Judged-cos_enclosure}

unfoldable pub computing : Unit {0}
unfolding add sub mul div neg is_nan lt eq le round of_bits min_num max_num isqrt_below isqrt sticky_sqrt round_sqrt sqrt trig.computing sin_low sin_high cos_low cos_high
    Interval-new Interval-hull Interval-of_four Interval-add Interval-sub Interval-mul Interval-sin_between Interval-sin Interval-cos_between Interval-cos
    Interval-add_enclosure Interval-sub_enclosure Interval-mul_enclosure Interval-div_enclosure Interval-sqrt_enclosure Interval-sin_enclosure Interval-cos_enclosure
    not_finite not_positive Judged-judge Judged-add_enclosure Judged-sub_enclosure Judged-mul_enclosure Judged-div_enclosure Judged-sqrt_enclosure Judged-sin_enclosure
    Judged-cos_enclosure
computing = tt
