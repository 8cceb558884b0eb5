-- What has to unfold for a pad and a grown box to compute, as one group: a case says `unfolding computing`.
use Rattle.interval_unjudged.specs.formula.means.Computing as formula
use Rattle.bounds3.specs.means.Computing as bounds
use Rattle.float32.specs.Lerp.{lerp}
use Rattle.motion_pad.specs.Pad.{Pad-enclose}
use Rattle.motion_pad.specs.Grow.{Bounds3f-grow, BoundsAnswer-grow}

unfoldable pub computing : Unit {0}
unfolding formula.computing bounds.computing lerp Pad-enclose Bounds3f-grow BoundsAnswer-grow
computing = tt
