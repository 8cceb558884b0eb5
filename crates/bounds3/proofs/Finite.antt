-- The test of a point and its three axes say the same (`test-finite`, `finite-test`), and a union of what is finite is finite (`union-point-finite`,
-- `union-finite`). Rests on `min-picks` and `max-picks` of `float32`: least and greatest are one of their arguments.
use mathlib.Core.Bool.{◌&&◌}
use lib.Dec.{T}
use lib.Ieee.{Float}
use lib.Ieee.Fits.{and_i, and_l, and_r}
use lib.Ieee.Scale.{finite}
use Rattle.float32.proofs.MinMax.{min-picks, max-picks}
use Rattle.bounds3.specs.declared.Point3f.{Point3f}
use Rattle.bounds3.specs.declared.Bounds3f.{Bounds3f}
use Rattle.bounds3.specs.Point3f.{Point3f-min, Point3f-max}
use Rattle.bounds3.specs.Bounds3f.{Bounds3f-union_point, Bounds3f-union_bounds}
use Rattle.bounds3.specs.Finite.{Point3f-is_finite, Bounds3f-is_finite, Finite}

-- ---- a point
pub test-finite : (p : Point3f) → T (Point3f-is_finite p) → Finite p
unfolding Point3f-is_finite
test-finite p f =
    let xy = and_l (finite p.x && finite p.y) (finite p.z) f in
    record {
      x = and_l (finite p.x) (finite p.y) xy;
      y = and_r (finite p.x) (finite p.y) xy;
      z = and_r (finite p.x && finite p.y) (finite p.z) f;
    }

pub finite-test : {p : Point3f} → Finite p → T (Point3f-is_finite p)
unfolding Point3f-is_finite
finite-test {p} f = and_i (finite p.x && finite p.y) (finite p.z) (and_i (finite p.x) (finite p.y) f.x f.y) f.z

min-finite : {p q : Point3f} → Finite p → Finite q → Finite (Point3f-min p q)
unfolding Point3f-min
min-finite {p} {q} f g =
    let F : Float → Type 0 = λ v. T (finite v) in
    record { x = min-picks F p.x q.x f.x g.x; y = min-picks F p.y q.y f.y g.y; z = min-picks F p.z q.z f.z g.z }

max-finite : {p q : Point3f} → Finite p → Finite q → Finite (Point3f-max p q)
unfolding Point3f-max
max-finite {p} {q} f g =
    let F : Float → Type 0 = λ v. T (finite v) in
    record { x = max-picks F p.x q.x f.x g.x; y = max-picks F p.y q.y f.y g.y; z = max-picks F p.z q.z f.z g.z }

-- ---- a box
module _ (b : Bounds3f) (f : T (Bounds3f-is_finite b)) where
  pub low-finite : Finite b.p_min
  unfolding Bounds3f-is_finite
  low-finite = test-finite b.p_min (and_l (Point3f-is_finite b.p_min) (Point3f-is_finite b.p_max) f)

  pub high-finite : Finite b.p_max
  unfolding Bounds3f-is_finite
  high-finite = test-finite b.p_max (and_r (Point3f-is_finite b.p_min) (Point3f-is_finite b.p_max) f)

pub box-finite : (b : Bounds3f) → Finite b.p_min → Finite b.p_max → T (Bounds3f-is_finite b)
unfolding Bounds3f-is_finite
box-finite b f g = and_i (Point3f-is_finite b.p_min) (Point3f-is_finite b.p_max) (finite-test f) (finite-test g)

pub union-point-finite : (b : Bounds3f) (p : Point3f) → T (Bounds3f-is_finite b) → T (Point3f-is_finite p) → T (Bounds3f-is_finite (Bounds3f-union_point b p))
unfolding Bounds3f-union_point
union-point-finite b p f g =
    box-finite (Bounds3f-union_point b p) (min-finite (low-finite b f) (test-finite p g)) (max-finite (high-finite b f) (test-finite p g))

pub union-finite : (a b : Bounds3f) → T (Bounds3f-is_finite a) → T (Bounds3f-is_finite b) → T (Bounds3f-is_finite (Bounds3f-union_bounds a b))
unfolding Bounds3f-union_bounds
union-finite a b f g =
    box-finite (Bounds3f-union_bounds a b) (min-finite (low-finite a f) (low-finite b g)) (max-finite (high-finite a f) (high-finite b g))
