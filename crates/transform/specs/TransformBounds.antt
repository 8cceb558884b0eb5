-- pbrt's `transform_bounds`: the union of a box's eight moved corners. Definitions only.
-- Each moved point is judged as it is met, so that a NaN is never dropped by least or greatest; the first refusal stands.
use Rattle.std.specs.Prelude.{Float, Ok, Err}
use Rattle.bounds3.specs.declared.Bounds3f.{Bounds3f}
use Rattle.bounds3.specs.Bounds3f.{Bounds3f-from_point, Bounds3f-union_point}
use Rattle.transform.specs.declared.Transform.{Transform}
use Rattle.transform.specs.Answer.{PointAnswer}
use Rattle.transform.specs.declared.BoundsAnswer.{BoundsAnswer}
use Rattle.transform.specs.declared.BoundsAnswer.TheVariants as bounds
use Rattle.transform.specs.TransformPoint.{Transform-transform_point}

-- `Bounds3f::from_point` of a moved point
unfoldable pub BoundsAnswer-from_moved : PointAnswer → BoundsAnswer
BoundsAnswer-from_moved (Ok p) = bounds.Bounds (Bounds3f-from_point p)
BoundsAnswer-from_moved (Err n) = bounds.Refused n

-- `ret.union_point` of a moved point
unfoldable pub BoundsAnswer-union_moved : BoundsAnswer → PointAnswer → BoundsAnswer
BoundsAnswer-union_moved (bounds.Bounds b) (Ok p) = bounds.Bounds (Bounds3f-union_point b p)
BoundsAnswer-union_moved (bounds.Bounds b) (Err n) = bounds.Refused n
BoundsAnswer-union_moved (bounds.Refused n) a = bounds.Refused n

-- `ret.union_point(&self.transform_point(&Point3::new(x, y, z)))`
unfoldable pub union_corner : Transform → BoundsAnswer → Float → Float → Float → BoundsAnswer
union_corner t r x y z = BoundsAnswer-union_moved r (Transform-transform_point t (record { x = x; y = y; z = z }))

-- `Transform::transform_bounds`, a line for each of its own
unfoldable pub Transform-transform_bounds : Transform → Bounds3f → BoundsAnswer
Transform-transform_bounds t b =
    let l = b.p_min in
    let h = b.p_max in
    let r0 = BoundsAnswer-from_moved (Transform-transform_point t l) in
    let r1 = union_corner t r0 h.x l.y l.z in
    let r2 = union_corner t r1 l.x h.y l.z in
    let r3 = union_corner t r2 l.x l.y h.z in
    let r4 = union_corner t r3 l.x h.y h.z in
    let r5 = union_corner t r4 h.x h.y l.z in
    let r6 = union_corner t r5 h.x l.y h.z in
    union_corner t r6 h.x h.y h.z
