-- Moved points and boxes are refused with 5 alone, and are finite where they are not refused: `transform-point-judged`, `transform-bounds-judged`.
-- Rests on `union-point-finite` of `bounds3`.
use Rattle.std.specs.Prelude.{Ok, Err}
use mathlib.Core.Path.{◌≡◌, refl}
use mathlib.Core.Bool.{Bool, true, false, cond}
use mathlib.Core.Logic.{inl, inr}
use lib.Dec.{T}
use lib.Ieee.{of_bits}
use Rattle.bounds3.specs.declared.Point3f.{Point3f}
use Rattle.bounds3.specs.declared.Bounds3f.{Bounds3f}
use Rattle.bounds3.specs.Bounds3f.{Bounds3f-from_point}
use Rattle.bounds3.specs.Finite.{Point3f-is_finite, Bounds3f-is_finite}
use Rattle.bounds3.proofs.Finite.{test-finite, box-finite, union-point-finite}
use Rattle.matrix4x4.specs.Rows.{Matrix4x4-to_rows}
use Rattle.transform.specs.declared.Transform.{Transform}
use Rattle.transform.specs.declared.BoundsAnswer.{BoundsAnswer}
use Rattle.transform.specs.declared.BoundsAnswer.TheVariants as bounds
use Rattle.transform.specs.Answer.{PointAnswer, origin, PointAnswer-Judged, BoundsAnswer-Judged}
use Rattle.transform.specs.TransformPoint.{moved_point, PointAnswer-judged, Transform-transform_point}
use Rattle.transform.specs.TransformBounds.{BoundsAnswer-from_moved, BoundsAnswer-union_moved, union_corner, Transform-transform_bounds}

pub origin-finite : T (Point3f-is_finite origin)
unfolding Point3f-is_finite of_bits
origin-finite = tt

point-box-finite : (p : Point3f) → T (Point3f-is_finite p) → T (Bounds3f-is_finite (Bounds3f-from_point p))
point-box-finite p f = box-finite (Bounds3f-from_point p) (test-finite p f) (test-finite p f)

pub judged-moved : (q : Point3f) → T (Point3f-is_finite q) → PointAnswer-judged q ≡ Ok q
unfolding PointAnswer-judged
judged-moved q f = go (Point3f-is_finite q) f
  where
    go : (b : Bool) → T b → cond {A = PointAnswer} b (Ok q) (Err 5) ≡ Ok q
    go true f = refl
    go false f = absurd f

judged-answer : (q : Point3f) → PointAnswer-Judged (PointAnswer-judged q)
unfolding PointAnswer-judged
judged-answer q = go (Point3f-is_finite q) (λ t. t)
  where
    go : (b : Bool) → (T b → T (Point3f-is_finite q)) → PointAnswer-Judged (cond b (Ok q) (Err 5))
    go true f = record { number = inl refl; values = f tt }
    go false f = record { number = inr refl; values = origin-finite }

pub transform-point-judged : (t : Transform) (p : Point3f) → PointAnswer-Judged (Transform-transform_point t p)
unfolding Transform-transform_point
transform-point-judged t p = judged-answer (moved_point (Matrix4x4-to_rows t.m) p)

from-moved-judged : (a : PointAnswer) → PointAnswer-Judged a → BoundsAnswer-Judged (BoundsAnswer-from_moved a)
unfolding BoundsAnswer-from_moved
from-moved-judged (Ok p) j = record { number = inl refl; values = point-box-finite p j.values }
from-moved-judged (Err n) j = record { number = j.number; values = point-box-finite origin origin-finite }

union-moved-judged : (r : BoundsAnswer) (a : PointAnswer) → BoundsAnswer-Judged r → PointAnswer-Judged a → BoundsAnswer-Judged (BoundsAnswer-union_moved r a)
unfolding BoundsAnswer-union_moved
union-moved-judged (bounds.Bounds b) (Ok p) j k = record { number = inl refl; values = union-point-finite b p j.values k.values }
union-moved-judged (bounds.Bounds b) (Err n) j k = record { number = k.number; values = point-box-finite origin origin-finite }
union-moved-judged (bounds.Refused n) a j k = j

pub transform-bounds-judged : (t : Transform) (b : Bounds3f) → BoundsAnswer-Judged (Transform-transform_bounds t b)
unfolding Transform-transform_bounds union_corner
transform-bounds-judged t b =
    let j = transform-point-judged t in
    union-moved-judged _ _
    (union-moved-judged _ _
    (union-moved-judged _ _
    (union-moved-judged _ _
    (union-moved-judged _ _
    (union-moved-judged _ _ (union-moved-judged _ _ (from-moved-judged _ (j _)) (j _)) (j _))
    (j _))
    (j _))
    (j _))
    (j _))
    (j _)

-- ---- both clauses of a contract, from the first
pub point-clauses : {r : PointAnswer} (t : Transform) (p : Point3f)
    → r ≡ Transform-transform_point t p → (r ≡ Transform-transform_point t p) × PointAnswer-Judged r
point-clauses t p e = (e, rw e (transform-point-judged t p))

pub bounds-clauses : {r : BoundsAnswer} (t : Transform) (b : Bounds3f)
    → r ≡ Transform-transform_bounds t b → (r ≡ Transform-transform_bounds t b) × BoundsAnswer-Judged r
bounds-clauses t b e = (e, rw e (transform-bounds-judged t b))
