-- Whether two boxes meet does not hang on which comes first, `meets-comm`; boxes that share a point meet, `shared-meets`, so that
-- two that do not meet share none, `apart-inside`.
use mathlib.Core.Path.{◌≡◌, subst}
use mathlib.Core.Bool.{false, ◌&&◌, and_comm}
use lib.Dec.{T}
use lib.Ieee.{Float, le}
use lib.Ieee.Fits.{and_i}
use Rattle.bounds3.specs.rounding.Order.{◌≼◌}
use Rattle.bounds3.proofs.rounding.Order.{≼_trans}
use Rattle.bounds3.specs.declared.Point3f.{Point3f}
use Rattle.bounds3.specs.declared.Bounds3f.{Bounds3f}
use Rattle.bounds3.specs.Inside.{Inside}
use Rattle.bounds_overlap.specs.Meets.{ranges_meet, Bounds3f-meets}

pub meets-comm : (a b : Bounds3f) → Bounds3f-meets a b ≡ Bounds3f-meets b a
unfolding Bounds3f-meets
meets-comm a b =
    rw (
      and_comm (le a.p_min.x b.p_max.x) (le b.p_min.x a.p_max.x),
      and_comm (le a.p_min.y b.p_max.y) (le b.p_min.y a.p_max.y),
      and_comm (le a.p_min.z b.p_max.z) (le b.p_min.z a.p_max.z),
    )

-- one axis: v lies in both ranges
axis-meets : {low high low' high' v : Float} → (low ≼ v) × (v ≼ high) → (low' ≼ v) × (v ≼ high') → T (ranges_meet low high low' high')
axis-meets {low} {high} {low'} {high'} i j = and_i (le low high') (le low' high) (≼_trans i.0 j.1).holds (≼_trans j.0 i.1).holds

pub shared-meets : (a b : Bounds3f) (p : Point3f) → Inside a p → Inside b p → T (Bounds3f-meets a b)
unfolding Bounds3f-meets
shared-meets a b p i j =
    let x = ranges_meet a.p_min.x a.p_max.x b.p_min.x b.p_max.x in
    let y = ranges_meet a.p_min.y a.p_max.y b.p_min.y b.p_max.y in
    let z = ranges_meet a.p_min.z a.p_max.z b.p_min.z b.p_max.z in
    and_i (x && y) z (and_i x y (axis-meets i.x j.x) (axis-meets i.y j.y)) (axis-meets i.z j.z)

pub apart-inside : (a b : Bounds3f) (p : Point3f) → Bounds3f-meets a b ≡ false → Inside a p → Inside b p → ⊥
apart-inside a b p e i j = subst T e (shared-meets a b p i j)
