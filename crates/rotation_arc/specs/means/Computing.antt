-- What has to unfold for the coefficients of given parts to be judged by computing, as one group:
-- a case says `unfolding computing`. The arc cosine's search is not in it.
use Rattle.quaternion.specs.means.Computing as quaternion
use Rattle.coefficients.specs.means.Computing as coefficients
use Rattle.rotation_arc.specs.ShorterArc.{flip, dots_refusal}
use Rattle.rotation_arc.specs.ArcCoefficients.{CoefficientsAnswer-judged, rotation_coefficients, pair_coefficients}

unfoldable pub computing : Unit {0}
unfolding quaternion.computing coefficients.computing flip dots_refusal CoefficientsAnswer-judged rotation_coefficients pair_coefficients
computing = tt
