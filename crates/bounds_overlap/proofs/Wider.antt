-- Boxes that meet do so also where each is taken larger: `meets-mono`. No corner of boxes that meet is NaN, so that one that meets a box meets its union with
-- any other: `union-meets-left`, `union-meets-right`.
use mathlib.Core.Bool.{◌&&◌}
use lib.Dec.{T}
use lib.Ieee.{Float, le}
use lib.Ieee.Fits.{and_i, and_l, and_r}
use Rattle.bounds3.specs.rounding.Order.{◌≼◌}
use Rattle.bounds3.proofs.rounding.Order.{≼_refl, ≼_trans, number-left, number-right}
use Rattle.bounds3.specs.declared.Bounds3f.{Bounds3f}
use Rattle.bounds3.specs.Bounds3f.{Bounds3f-union_bounds}
use Rattle.bounds3.specs.Inside.{Subset}
use Rattle.bounds3.proofs.Union.{union_subset_left, union_subset_right}
use Rattle.bounds_overlap.specs.Meets.{ranges_meet, Bounds3f-meets}

-- one axis, with the larger ranges last
axis-mono : {l h l' h' L H L' H' : Float} → (L ≼ l) × (h ≼ H) → (L' ≼ l') × (h' ≼ H') → T (ranges_meet l h l' h') → T (ranges_meet L H L' H')
axis-mono {l} {h} {l'} {h'} {L} {H} {L'} {H'} s t m =
    let low : l ≼ h' = record { holds = and_l (le l h') (le l' h) m } in
    let low' : l' ≼ h = record { holds = and_r (le l h') (le l' h) m } in
    and_i (le L H') (le L' H) (≼_trans s.0 (≼_trans low t.1)).holds (≼_trans t.0 (≼_trans low' s.1)).holds

pub meets-mono : {a a' b b' : Bounds3f} → Subset a b → Subset a' b' → T (Bounds3f-meets a a') → T (Bounds3f-meets b b')
unfolding Bounds3f-meets
meets-mono {a} {a'} {b} {b'} s t m =
    let x = ranges_meet a.p_min.x a.p_max.x a'.p_min.x a'.p_max.x in
    let y = ranges_meet a.p_min.y a.p_max.y a'.p_min.y a'.p_max.y in
    let z = ranges_meet a.p_min.z a.p_max.z a'.p_min.z a'.p_max.z in
    let X = ranges_meet b.p_min.x b.p_max.x b'.p_min.x b'.p_max.x in
    let Y = ranges_meet b.p_min.y b.p_max.y b'.p_min.y b'.p_max.y in
    let Z = ranges_meet b.p_min.z b.p_max.z b'.p_min.z b'.p_max.z in
    let xy = and_l (x && y) z m in
    and_i (X && Y) Z (and_i X Y (axis-mono s.x t.x (and_l x y xy)) (axis-mono s.y t.y (and_r x y xy)))
    (axis-mono s.z t.z (and_r (x && y) z m))

-- ---- a union
axis-self : {l h l' h' : Float} → T (ranges_meet l h l' h') → ((l ≼ l) × (h ≼ h)) × ((l' ≼ l') × (h' ≼ h'))
axis-self {l} {h} {l'} {h'} m =
    let low : l ≼ h' = record { holds = and_l (le l h') (le l' h) m } in
    let low' : l' ≼ h = record { holds = and_r (le l h') (le l' h) m } in
    ((≼_refl l (number-left low), ≼_refl h (number-right low')), (≼_refl l' (number-left low'), ≼_refl h' (number-right low)))

meets-self : {a b : Bounds3f} → T (Bounds3f-meets a b) → Subset a a × Subset b b
unfolding Bounds3f-meets
meets-self {a} {b} m =
    let x = ranges_meet a.p_min.x a.p_max.x b.p_min.x b.p_max.x in
    let y = ranges_meet a.p_min.y a.p_max.y b.p_min.y b.p_max.y in
    let z = ranges_meet a.p_min.z a.p_max.z b.p_min.z b.p_max.z in
    let xy = and_l (x && y) z m in
    let X = axis-self (and_l x y xy) in
    let Y = axis-self (and_r x y xy) in
    let Z = axis-self (and_r (x && y) z m) in
    (record { x = X.0; y = Y.0; z = Z.0 }, record { x = X.1; y = Y.1; z = Z.1 })

pub union-meets-left : (a b row : Bounds3f) → T (Bounds3f-meets a row) → T (Bounds3f-meets (Bounds3f-union_bounds a b) row)
union-meets-left a b row m = let s = meets-self m in meets-mono (union_subset_left b s.0) s.1 m

pub union-meets-right : (a b row : Bounds3f) → T (Bounds3f-meets b row) → T (Bounds3f-meets (Bounds3f-union_bounds a b) row)
union-meets-right a b row m = let s = meets-self m in meets-mono (union_subset_right a s.0) s.1 m
