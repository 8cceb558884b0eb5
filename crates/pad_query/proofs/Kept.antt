-- The pad query of a kept move is the move's: `pad-kept`.
use mathlib.Core.Path.{◌≡◌}
use lib.Ieee.{Float}
use Rattle.motion_rows.specs.animated_transform.declared.AnimatedTransform.{AnimatedTransform}
use Rattle.motion_rows.specs.Rows.{AnimatedTransform-to_rows}
use Rattle.motion_rows.proofs.RoundTrip.{from-rows-inverse}
use Rattle.pad_query.specs.PadQuery.{AnimatedTransform-pad, Rows-pad}

pub pad-kept : (m : AnimatedTransform) (time : Float) → Rows-pad (AnimatedTransform-to_rows m) time ≡ AnimatedTransform-pad m time
unfolding Rows-pad
pad-kept m time = rw (from-rows-inverse m)
