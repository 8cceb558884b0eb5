-- Boxes as three intervals: a point inside a finite box is enclosed by it (`inside-encloses`), what encloses a point has it inside (`encloses-inside`), so that
-- the point is finite (`point-finite`),
-- and likewise for a box in a box (`subset-refines`, `refines-subset`); both are then finite (`refines-finite`, `wider-finite`). `order-refl`: a finite box in
-- order lies in itself.
use lib.Dec.{T}
use lib.Ieee.{Float}
use lib.Ieee.Scale.{finite}
use Rattle.matrix4x4.specs.rounding.Order.{◌≼◌}
use Rattle.matrix4x4.proofs.rounding.Order.{≼_refl, number-left, number-right}
use Rattle.rotation.specs.bounds3.declared.Point3f.{Point3f}
use Rattle.rotation.specs.bounds3.declared.Bounds3f.{Bounds3f}
use Rattle.rotation.specs.bounds3.Finite.{Finite, Bounds3f-is_finite}
use Rattle.rotation.specs.bounds3.Inside.{Inside, Subset}
use Rattle.rotation.specs.bounds3.List.{Point3f-list}
use Rattle.rotation.proofs.bounds3.Finite.{low-finite, high-finite, box-finite}
use Rattle.interval.specs.Contains as interval
use Rattle.interval.specs.Contains.{Encloses, Refines}
use Rattle.interval.proofs.Contains.{contains-finite, subset-finite}
use Rattle.formula.specs.Promise.{Pairwise}
use Rattle.pose_steps.specs.declared.IntervalVector.{IntervalVector}
use Rattle.pose_steps.specs.Enclose.{IntervalVector-list, Bounds3f-intervals, IntervalVector-bounds}
use Rattle.pose_steps.specs.Promise.{InOrder}

-- ---- one axis
between : {l x h : Float} → T (finite l) → T (finite h) → (l ≼ x) × (x ≼ h) → Encloses (record { low = l; high = h }) x
between f g i = record { finite = record { low = f; high = g }; contains = record { low = i.0; high = i.1 } }

within : {l h l' h' : Float} → T (finite l') → T (finite h') → l ≼ h → (l' ≼ l) × (h ≼ h')
    → Refines (record { low = l; high = h }) (record { low = l'; high = h' })
within f g o i = record { finite = record { low = f; high = g }; subset = record { low = i.0; proper = o; high = i.1 } }

-- ---- all three
pub inside-encloses : (b : Bounds3f) {p : Point3f} → T (Bounds3f-is_finite b) → Inside b p
    → Pairwise Encloses (IntervalVector-list (Bounds3f-intervals b)) (Point3f-list p)
inside-encloses b f i =
    let l = low-finite b f in
    let h = high-finite b f in
    (between l.x h.x i.x, (between l.y h.y i.y, (between l.z h.z i.z, tt)))

pub encloses-inside : (W : IntervalVector) (p : Point3f) → Pairwise Encloses (IntervalVector-list W) (Point3f-list p) → Inside (IntervalVector-bounds W) p
encloses-inside W p (x, (y, (z, e))) =
    record {
      x = (x.contains.low, x.contains.high);
      y = (y.contains.low, y.contains.high);
      z = (z.contains.low, z.contains.high);
    }

pub point-finite : (W : IntervalVector) (p : Point3f) → Pairwise Encloses (IntervalVector-list W) (Point3f-list p) → Finite p
point-finite W p (x, (y, (z, e))) =
    record {
      x = contains-finite x.finite x.contains;
      y = contains-finite y.finite y.contains;
      z = contains-finite z.finite z.contains;
    }

pub subset-refines : (b : Bounds3f) {b' : Bounds3f} → InOrder b → T (Bounds3f-is_finite b') → Subset b b'
    → Pairwise Refines (IntervalVector-list (Bounds3f-intervals b)) (IntervalVector-list (Bounds3f-intervals b'))
subset-refines b {b'} o f s =
    let l = low-finite b' f in
    let h = high-finite b' f in
    (within l.x h.x o.x s.x, (within l.y h.y o.y s.y, (within l.z h.z o.z s.z, tt)))

pub refines-subset : (W W' : IntervalVector) → Pairwise Refines (IntervalVector-list W) (IntervalVector-list W')
    → Subset (IntervalVector-bounds W) (IntervalVector-bounds W')
refines-subset W W' (x, (y, (z, e))) =
    record {
      x = (x.subset.low, x.subset.high);
      y = (y.subset.low, y.subset.high);
      z = (z.subset.low, z.subset.high);
    }

pub refines-finite : (W W' : IntervalVector) → Pairwise Refines (IntervalVector-list W) (IntervalVector-list W')
    → T (Bounds3f-is_finite (IntervalVector-bounds W))
refines-finite W W' (x, (y, (z, e))) =
    let fx = subset-finite x.finite x.subset in
    let fy = subset-finite y.finite y.subset in
    let fz = subset-finite z.finite z.subset in
    box-finite (IntervalVector-bounds W) (record { x = fx.low; y = fy.low; z = fz.low }) (record { x = fx.high; y = fy.high; z = fz.high })

pub wider-finite : (W W' : IntervalVector) → Pairwise Refines (IntervalVector-list W) (IntervalVector-list W')
    → T (Bounds3f-is_finite (IntervalVector-bounds W'))
wider-finite W W' (x, (y, (z, e))) =
    box-finite (IntervalVector-bounds W')
    (record { x = x.finite.low; y = y.finite.low; z = z.finite.low })
    (record { x = x.finite.high; y = y.finite.high; z = z.finite.high })

pub refines-order : (W W' : IntervalVector) → Pairwise Refines (IntervalVector-list W) (IntervalVector-list W') → InOrder (IntervalVector-bounds W)
refines-order W W' (x, (y, (z, e))) = record { x = x.subset.proper; y = y.subset.proper; z = z.subset.proper }

pub order-refl : {b : Bounds3f} → InOrder b → Subset b b
order-refl {b} o =
    let l = b.p_min in
    let h = b.p_max in
    record {
      x = (≼_refl l.x (number-left o.x), ≼_refl h.x (number-right o.x));
      y = (≼_refl l.y (number-left o.y), ≼_refl h.y (number-right o.y));
      z = (≼_refl l.z (number-left o.z), ≼_refl h.z (number-right o.z));
    }
