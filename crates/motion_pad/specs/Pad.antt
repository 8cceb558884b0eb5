-- Document 02's "Pads for the spray": the pad of a move at dt as a formula, read in floats and in intervals. Definitions only.
-- Every interval is judged as it is formed; the two pads have equal ends.
use Rattle.std.specs.Prelude.{Bool, cond, List, [], ◌∷◌, Float}
use Rattle.float32.specs.MinMax.{max_num}
use Rattle.float32.specs.Lerp as float
use Rattle.interval.specs.declared.Interval.{Interval}
use Rattle.interval.specs.Judged.{Judged}
use Rattle.interval.specs.Interval.{Interval-point}
use Rattle.interval_unjudged.specs.formula.Program.{var, Program, give}
use Rattle.interval_unjudged.specs.formula.Enclose.{Enclosure, enclosure, Program-enclose}
use Rattle.pose_steps.specs.Stages.{lerp}
use Rattle.pose_steps.specs.Enclose.{at}

-- "During a move the pad is lerp of the two pads at dt": the inputs are pad0, pad1, dt.
abbrev pub pad_stage : Program
pad_stage = give (lerp (var 2) (var 0) (var 1) ∷ [])

-- in floats
abbrev pub Pad-at : Float → Float → Float → Float
Pad-at pad0 pad1 dt = float.lerp dt pad0 pad1

-- in intervals
abbrev pub Pad-inputs : Float → Float → Interval → List Interval
Pad-inputs pad0 pad1 dt = Interval-point pad0 ∷ Interval-point pad1 ∷ dt ∷ []

abbrev pub Judged-of : Enclosure → Judged
Judged-of c = record { interval = at c 0; refusal = c.refusal }

unfoldable pub Pad-enclose : Float → Float → Interval → Judged
Pad-enclose pad0 pad1 dt = Judged-of (Program-enclose (enclosure 0 (Pad-inputs pad0 pad1 dt)) pad_stage)

-- The pad of a move's start box: "the two end boxes by their own pad, the one box of equal poses by the larger"
abbrev pub Pad-start : Bool → Float → Float → Float
Pad-start animated pad0 pad1 = cond animated pad0 (max_num pad0 pad1)

-- A pose's own pad.
abbrev pub Pad-stored : Float → Judged
Pad-stored pad = record { interval = Interval-point pad; refusal = 0 }
