-- The range assertions never fire for a built move: `built-asserted`. Building has turned the second rotation to the first's side,
-- so that their dot product is at least 0 and theta at most a quarter turn; the rest is `angles-in-range`.
use mathlib.Core.Path.{sym, subst}
use lib.Ieee.{Float}
use Rattle.zero_search.specs.rounding.Order.{◌≼◌}
use Rattle.zero_search.specs.trig.Range.{quarter_turn_float}
use Rattle.motion_point.specs.quaternion.Quaternion.{Quaternion-dot}
use Rattle.zero_search.specs.float32.Operators.{positive_zero}
use Rattle.motion_point.specs.animated_transform.declared.AnimatedTransform.{AnimatedTransform}
use Rattle.motion_point.specs.animated_transform.Built.{Built}
use Rattle.motion_point.proofs.animated_transform.Built.{built-judged}
use Rattle.motion_point.specs.pose_steps.Pose.{PoseConstants-new}
use Rattle.motion_point.proofs.pose_steps.Angle.{theta-quarter}
use Rattle.search_range.specs.Assertions.{AssertionsHold}
use Rattle.search_range.proofs.Assertions.{angles-in-range}

pub built-asserted : {m : AnimatedTransform} → Built m → AssertionsHold m
unfolding PoseConstants-new
built-asserted {m} b f j e =
    let built = built-judged b in
    let theta = theta-quarter (Quaternion-dot m.r0 m.r1) built.dot built.dot-sign in
    angles-in-range f (subst (λ (x : Float). positive_zero ≼ x) (sym e) theta.below) (subst (λ (x : Float). x ≼ quarter_turn_float) (sym e) theta.above) j
