-- The pad of a move at a time, case by case: `pad-at-equal`, `pad-at-start`, `pad-at-end`, `pad-at-between`.
use mathlib.Core.Path.{◌≡◌}
use mathlib.Core.Bool.{true, false}
use lib.Ieee.{Float, le}
use Rattle.bounds3.specs.float32.MinMax.{max_num}
use Rattle.bounds3.specs.float32.Lerp.{lerp}
use Rattle.unit_interval.specs.Unit.{dt}
use Rattle.animated_transform.specs.declared.AnimatedTransform.{AnimatedTransform}
use Rattle.motion_point.specs.PadAt.{AnimatedTransform-pad_at}

module _ (m : AnimatedTransform) (time : Float) where
  pub pad-at-equal : m.actually_animated ≡ false → AnimatedTransform-pad_at m time ≡ max_num m.pad0 m.pad1
  unfolding AnimatedTransform-pad_at
  pad-at-equal e = rw e

  module _ (e : m.actually_animated ≡ true) where
    pub pad-at-start : le time m.start_time ≡ true → AnimatedTransform-pad_at m time ≡ m.pad0
    unfolding AnimatedTransform-pad_at
    pad-at-start f = rw (e, f)

    pub pad-at-end : le time m.start_time ≡ false → le m.end_time time ≡ true → AnimatedTransform-pad_at m time ≡ m.pad1
    unfolding AnimatedTransform-pad_at
    pad-at-end f g = rw (e, f, g)

    pub pad-at-between : le time m.start_time ≡ false → le m.end_time time ≡ false
        → AnimatedTransform-pad_at m time ≡ lerp (dt m.start_time m.end_time time) m.pad0 m.pad1
    unfolding AnimatedTransform-pad_at
    pad-at-between f g = rw (e, f, g)
