-- A case of the cover by computing: document 01's move A, the identity at time 0 and a translation by 1 along x at time 1, with pads of 1, and its cover of the
-- origin. Without pads it is a row of `Cases.antt`.
use mathlib.Core.Path.{◌≡◌, refl}
use mathlib.Core.Bool.{false}
use lib.Ieee.{Float, binary32, of_bits}
use Rattle.motion_cover.specs.float32.Operators.{one}
use Rattle.motion_cover.specs.matrix4x4.Rows.{positive_zero}
use Rattle.motion_cover.specs.bounds3.declared.Bounds3f.{Bounds3f}
use Rattle.motion_cover.specs.transform.Transform.{translation}
use Rattle.motion_cover.specs.transform.declared.BoundsAnswer.TheVariants.{Bounds}
use Rattle.motion_cover.specs.animated_transform.declared.AnimatedTransform.{AnimatedTransform}
use Rattle.motion_cover.specs.animated_transform.New.{AnimatedTransform-new}
use Rattle.motion_cover.specs.animated_transform.means.Computing as building
use Rattle.motion_cover.specs.Cover.{AnimatedTransform-cover}
use Rattle.motion_cover.specs.means.Computing.{computing}

-- -1.5 and 1.5
abbrev low : Float
low = of_bits binary32 0xbfc00000

abbrev high : Float
high = of_bits binary32 0x3fc00000

abbrev origin : Bounds3f
origin = record {
  p_min = record { x = positive_zero; y = positive_zero; z = positive_zero };
  p_max = record { x = positive_zero; y = positive_zero; z = positive_zero };
}

-- Over a half of dt the pad interval is 0.5 to 1.5, whose high end is above both pads.
abbrev padded_a : AnimatedTransform
padded_a =
    (AnimatedTransform-new false (record { time = positive_zero; m = translation positive_zero positive_zero positive_zero; pad = one })
    (record { time = one; m = translation one positive_zero positive_zero; pad = one })).value

padded-halves : AnimatedTransform-cover padded_a origin 1
    ≡ Bounds (record { p_min = record { x = low; y = low; z = low }; p_max = record { x = of_bits binary32 0x40200000; y = high; z = high } })
unfolding building.computing computing
padded-halves = refl
