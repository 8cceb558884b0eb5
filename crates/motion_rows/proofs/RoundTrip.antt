-- What is kept of a move is the whole move: `from-rows-inverse`, and beside it the constants of its poses, `constants-inverse`;
-- so its point query is the move's, `transform-point-kept`.
use mathlib.Core.Path.{◌≡◌, refl}
use mathlib.Core.Bool.{Bool, true, false}
use lib.Ieee.{Float, eq, of_bits}
use Rattle.bounds3.specs.float32.Operators.{one}
use Rattle.bounds3.specs.declared.Point3f.{Point3f}
use Rattle.pose_steps.specs.Pose.{PoseConstants-new}
use Rattle.animated_transform.specs.declared.AnimatedTransform.{AnimatedTransform}
use Rattle.motion_point.specs.TransformPoint.{AnimatedTransform-constants, AnimatedTransform-transform_point}
use Rattle.motion_rows.specs.Rows.{flag, constants_row, fields_rows, transform_at, derivative_at, coefficients_at}
use Rattle.motion_rows.specs.Rows.{AnimatedTransform-to_rows, AnimatedTransform-from_rows, PoseConstants-from_rows}
use Rattle.motion_rows.specs.TransformPoint.{Rows-transform_point}

flag-eq : (b : Bool) → eq (flag b) one ≡ b
unfolding eq of_bits
flag-eq true = refl
flag-eq false = refl

pub from-rows-inverse : (m : AnimatedTransform) → AnimatedTransform-from_rows (AnimatedTransform-to_rows m) ≡ m
unfolding AnimatedTransform-to_rows fields_rows constants_row AnimatedTransform-from_rows transform_at derivative_at coefficients_at
from-rows-inverse m = rw (flag-eq m.actually_animated, flag-eq m.has_rotation, flag-eq m.rigid)

pub constants-inverse : (m : AnimatedTransform) → PoseConstants-from_rows (AnimatedTransform-to_rows m) ≡ AnimatedTransform-constants m
unfolding AnimatedTransform-to_rows fields_rows constants_row PoseConstants-from_rows PoseConstants-new
constants-inverse m = rw (flag-eq m.rigid)

pub transform-point-kept : (m : AnimatedTransform) (time : Float) (p : Point3f)
    → Rows-transform_point (AnimatedTransform-to_rows m) time p ≡ AnimatedTransform-transform_point m time p
unfolding Rows-transform_point AnimatedTransform-transform_point
transform-point-kept m time p = rw (from-rows-inverse m, constants-inverse m)
