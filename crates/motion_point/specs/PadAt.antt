-- The pad of a move at a time, document 02's "Pads for the spray". Definitions only.
use Rattle.std.specs.Prelude.{not, cond, Float}
use Rattle.std.specs.Float.Ieee.{le}
use Rattle.bounds3.specs.float32.MinMax.{max_num}
use Rattle.bounds3.specs.float32.Lerp.{lerp}
use Rattle.unit_interval.specs.Unit.{dt}
use Rattle.animated_transform.specs.declared.AnimatedTransform.{AnimatedTransform}
use Rattle.animated_transform.specs.AtTime.{at_end}

-- "During a move the pad is lerp of the two pads at dt; before and after it is that pose's own; a move with equal poses keeps the larger throughout."
unfoldable pub AnimatedTransform-pad_at : AnimatedTransform → Float → Float
AnimatedTransform-pad_at m time =
    cond (not m.actually_animated) (max_num m.pad0 m.pad1)
    (cond (le time m.start_time) m.pad0
    (cond (at_end m time) m.pad1
    (lerp (dt m.start_time m.end_time time) m.pad0 m.pad1)))
