-- A union of boxes holds what either holds (`union-inside-left`, `union-inside-right`), lies in every box that both lie in (`union-least`), and
-- grows with both (`union-isotone`). The union with a point is the union with that point's own box (`union-point-box`), and holds the point where
-- it is finite (`union-point-inside`). A finite box lies in itself (`finite-self`), and the box of a point in what holds the point (`inside-subset`). Rests on
-- the order of `rounding` and on the laws of least and greatest in `float32`, one axis at a time.
use mathlib.Core.Path.{◌≡◌, refl}
use lib.Dec.{T}
use lib.Ieee.{Float}
use lib.Ieee.Scale.{finite}
use Rattle.float32.specs.rounding.Order.{◌≼◌}
use Rattle.float32.proofs.rounding.Order.{≼_refl, ≼_trans, number-left, number-right, finite_number}
use Rattle.float32.specs.MinMax.{min_num, max_num}
use Rattle.float32.proofs.MinMax.{min-left, min-right, max-left, max-right, min-picks, max-picks}
use Rattle.bounds3.specs.declared.Point3f.{Point3f}
use Rattle.bounds3.specs.declared.Bounds3f.{Bounds3f}
use Rattle.bounds3.specs.Point3f.{Point3f-min, Point3f-max}
use Rattle.bounds3.specs.Bounds3f.{Bounds3f-from_point, Bounds3f-union_point, Bounds3f-union_bounds}
use Rattle.bounds3.specs.Finite.{Bounds3f-is_finite, Finite}
use Rattle.bounds3.specs.Inside.{Inside, Subset}
use Rattle.bounds3.proofs.Finite.{low-finite, high-finite}

-- ---- one axis: the ends low and high, and values between them
axis-trans : {low low' v v' high high' : Float} → (low' ≼ low) × (high ≼ high') → (low ≼ v) × (v' ≼ high) → (low' ≼ v) × (v' ≼ high')
axis-trans h k = (≼_trans h.0 k.0, ≼_trans k.1 h.1)

axis-left : {low v v' high : Float} (low' high' : Float) → (low ≼ v) × (v' ≼ high) → (min_num low low' ≼ v) × (v' ≼ max_num high high')
axis-left {low} {v} {v'} {high} low' high' h =
    (≼_trans (min-left low low' (number-left h.0)) h.0, ≼_trans h.1 (max-left high high' (number-right h.1)))

axis-right : (low high : Float) {low' v v' high' : Float} → (low' ≼ v) × (v' ≼ high') → (min_num low low' ≼ v) × (v' ≼ max_num high high')
axis-right low high {low'} {v} {v'} {high'} h =
    (≼_trans (min-right low low' (number-left h.0)) h.0, ≼_trans h.1 (max-right high high' (number-right h.1)))

axis-least : {l low high low' high' h : Float} → (l ≼ low) × (high ≼ h) → (l ≼ low') × (high' ≼ h) → (l ≼ min_num low low') × (max_num high high' ≼ h)
axis-least {l} {low} {high} {low'} {high'} {h} a b =
    (min-picks (λ (v : Float). l ≼ v) low low' a.0 b.0, max-picks (λ (v : Float). v ≼ h) high high' a.1 b.1)

axis-finite : (v : Float) → T (finite v) → (v ≼ v) × (v ≼ v)
axis-finite v f = (≼_refl v (finite_number v f), ≼_refl v (finite_number v f))

-- ---- boxes
pub subset-inside : {a b : Bounds3f} {p : Point3f} → Subset a b → Inside a p → Inside b p
subset-inside s i = record { x = axis-trans s.x i.x; y = axis-trans s.y i.y; z = axis-trans s.z i.z }

pub subset-trans : {a b c : Bounds3f} → Subset a b → Subset b c → Subset a c
subset-trans s t = record { x = axis-trans t.x s.x; y = axis-trans t.y s.y; z = axis-trans t.z s.z }

pub inside-subset : {b : Bounds3f} {p : Point3f} → Inside b p → Subset (Bounds3f-from_point p) b
inside-subset i = record { x = i.x; y = i.y; z = i.z }

pub finite-self : {b : Bounds3f} → T (Bounds3f-is_finite b) → Subset b b
finite-self {b} f =
    let l = low-finite b f in
    let h = high-finite b f in
    record { x = (own l.x, own h.x); y = (own l.y, own h.y); z = (own l.z, own h.z) }
  where
    own : {v : Float} → T (finite v) → v ≼ v
    own {v} g = ≼_refl v (finite_number v g)

pub union-inside-left : {a : Bounds3f} {p : Point3f} (b : Bounds3f) → Inside a p → Inside (Bounds3f-union_bounds a b) p
unfolding Bounds3f-union_bounds Point3f-min Point3f-max
union-inside-left b i = record { x = axis-left _ _ i.x; y = axis-left _ _ i.y; z = axis-left _ _ i.z }

pub union-inside-right : (a : Bounds3f) {b : Bounds3f} {p : Point3f} → Inside b p → Inside (Bounds3f-union_bounds a b) p
unfolding Bounds3f-union_bounds Point3f-min Point3f-max
union-inside-right a i = record { x = axis-right _ _ i.x; y = axis-right _ _ i.y; z = axis-right _ _ i.z }

pub union-least : {a b c : Bounds3f} → Subset a c → Subset b c → Subset (Bounds3f-union_bounds a b) c
unfolding Bounds3f-union_bounds Point3f-min Point3f-max
union-least s t = record { x = axis-least s.x t.x; y = axis-least s.y t.y; z = axis-least s.z t.z }

pub union_subset_left : {a a' : Bounds3f} (b : Bounds3f) → Subset a a' → Subset a (Bounds3f-union_bounds a' b)
unfolding Bounds3f-union_bounds Point3f-min Point3f-max
union_subset_left b s = record { x = axis-left _ _ s.x; y = axis-left _ _ s.y; z = axis-left _ _ s.z }

pub union_subset_right : (a : Bounds3f) {b b' : Bounds3f} → Subset b b' → Subset b (Bounds3f-union_bounds a b')
unfolding Bounds3f-union_bounds Point3f-min Point3f-max
union_subset_right a s = record { x = axis-right _ _ s.x; y = axis-right _ _ s.y; z = axis-right _ _ s.z }

pub union-isotone : {a a' b b' : Bounds3f} → Subset a a' → Subset b b' → Subset (Bounds3f-union_bounds a b) (Bounds3f-union_bounds a' b')
union-isotone {a} {a'} {b} {b'} s t = union-least (union_subset_left b' s) (union_subset_right a' t)

-- ---- points
pub from-point-inside : {p : Point3f} → Finite p → Inside (Bounds3f-from_point p) p
from-point-inside {p} f = record { x = axis-finite p.x f.x; y = axis-finite p.y f.y; z = axis-finite p.z f.z }

pub union-point-box : (b : Bounds3f) (p : Point3f) → Bounds3f-union_point b p ≡ Bounds3f-union_bounds b (Bounds3f-from_point p)
unfolding Bounds3f-union_point Bounds3f-union_bounds
union-point-box b p = refl

pub union-point-inside : (b : Bounds3f) {p : Point3f} → Finite p → Inside (Bounds3f-union_point b p) p
union-point-inside b {p} f = rw (union-point-box b p) (union-inside-right b (from-point-inside f))

pub union-point-keeps : {b : Bounds3f} {q : Point3f} (p : Point3f) → Inside b q → Inside (Bounds3f-union_point b p) q
union-point-keeps {b} p i = rw (union-point-box b p) (union-inside-left (Bounds3f-from_point p) i)
