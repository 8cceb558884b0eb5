-- What has to unfold for a sine or a cosine of a given float to compute, as one group: a case says `unfolding computing`.
use Rattle.std.specs.Float.Ieee.{neg, lt, le, round, of_bits}
use Rattle.sine_table.specs.QuarterSine as table
use Rattle.float32.specs.Abs.{abs}
use Rattle.float_bits.specs.Decode.{negative}
use Rattle.trig.specs.Units.{fixed, sin_quarter, sin_units_over, sin_units, cos_units, nearest_float}
use Rattle.trig.specs.SinCos.{sin, cos}
use Rattle.trig.specs.Biased.{biased}

unfoldable pub computing : Unit {0}
unfolding table.computing neg lt le round of_bits abs negative fixed sin_quarter sin_units_over sin_units cos_units nearest_float sin cos biased
computing = tt
