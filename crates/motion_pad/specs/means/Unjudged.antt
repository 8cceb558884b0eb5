-- The pad over an interval of dt with no interval judged, as code works it out where every end is finite. Definitions only.
use Rattle.std.specs.Prelude.{Float}
use Rattle.interval.specs.declared.Interval.{Interval}
use Rattle.interval_unjudged.specs.formula.Enclose.{enclosure}
use Rattle.interval_unjudged.specs.means.Unjudged.{Program-unjudged}
use Rattle.motion_pad.specs.Pad.{pad_stage, Pad-inputs, Judged-of}

unfoldable pub Pad-unjudged : Float → Float → Interval → Interval
Pad-unjudged pad0 pad1 dt = (Judged-of (enclosure 0 (Program-unjudged (Pad-inputs pad0 pad1 dt) pad_stage))).interval
