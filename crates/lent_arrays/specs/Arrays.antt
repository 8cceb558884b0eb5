-- Poses and transforms in arrays of floats, and what each kind of answer leaves in a lent array:
-- `PointAnswer-left`, `BoundsAnswer-left`, `TransformAnswer-left`. Definitions only.
use Rattle.std.specs.Prelude.{cond, List, [], ◌∷◌, ◌++◌, eqb, get_or, Float, Ok, Err}
use Rattle.std.specs.Float.{nan}
use Rattle.matrix4x4.specs.Rows.{Rows, Matrix4x4-to_rows}
use Rattle.bounds3.specs.List.{Point3f-list, Bounds3f-list}
use Rattle.pose_pair.specs.declared.Pose.{Pose}
use Rattle.transform.specs.declared.Transform.{Transform}
use Rattle.transform.specs.Transform.{TransformAnswer}
use Rattle.transform.specs.Answer.{PointAnswer}
use Rattle.transform.specs.declared.BoundsAnswer.{BoundsAnswer}
use Rattle.transform.specs.declared.BoundsAnswer.TheVariants as bounds

-- a pose of 18 floats: its time, then its matrix row by row, then its pad
abbrev pub Pose-of_list : List Float → Pose
Pose-of_list l =
    record {
      time = get_or l 0 nan;
      m = record {
        r0 = get_or l 1 nan ∷ get_or l 2 nan ∷ get_or l 3 nan ∷ get_or l 4 nan ∷ [];
        r1 = get_or l 5 nan ∷ get_or l 6 nan ∷ get_or l 7 nan ∷ get_or l 8 nan ∷ [];
        r2 = get_or l 9 nan ∷ get_or l 10 nan ∷ get_or l 11 nan ∷ get_or l 12 nan ∷ [];
        r3 = get_or l 13 nan ∷ get_or l 14 nan ∷ get_or l 15 nan ∷ get_or l 16 nan ∷ [];
      };
      pad = get_or l 17 nan;
    }

-- the matrix, row by row, and its inverse
abbrev pub transform_rows : Transform → Rows
transform_rows t = Matrix4x4-to_rows t.m ++ Matrix4x4-to_rows t.m_inv

-- ---- a lent array after an answer: `old` is what stood in it, and stands in it after a refusal
abbrev pub PointAnswer-left : PointAnswer → List Float → List Float
PointAnswer-left (Ok p) old = Point3f-list p
PointAnswer-left (Err n) old = old

abbrev pub BoundsAnswer-left : BoundsAnswer → List Float → List Float
BoundsAnswer-left (bounds.Bounds b) old = Bounds3f-list b
BoundsAnswer-left (bounds.Refused n) old = old

unfoldable pub TransformAnswer-left : TransformAnswer → Rows → Rows
TransformAnswer-left a old = cond (eqb a.refusal 0) (transform_rows a.transform) old
