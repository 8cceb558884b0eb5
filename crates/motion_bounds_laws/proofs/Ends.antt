-- The box of two moved points is the first's own box joined with the second: `from-ends-union`.
use Rattle.std.specs.Prelude.{Ok, Err}
use mathlib.Core.Path.{◌≡◌, refl}
use Rattle.motion_bounds.specs.bounds3.Bounds3f.{Bounds3f-from_points, Bounds3f-union_point}
use Rattle.motion_bounds.specs.transform.Answer.{PointAnswer}
use Rattle.motion_bounds.specs.transform.TransformBounds.{BoundsAnswer-from_moved, BoundsAnswer-union_moved}
use Rattle.motion_bounds.specs.MotionBounds.{BoundsAnswer-from_ends}

pub from-ends-union : (a b : PointAnswer) → BoundsAnswer-from_ends a b ≡ BoundsAnswer-union_moved (BoundsAnswer-from_moved a) b
unfolding BoundsAnswer-from_ends BoundsAnswer-union_moved BoundsAnswer-from_moved Bounds3f-from_points Bounds3f-union_point
from-ends-union (Ok p) (Ok q) = refl
from-ends-union (Ok p) (Err n) = refl
from-ends-union (Err n) b = refl
