-- The numbers of a struct and of an array that a function is handed by value are values of binary32: `vector-values`, `quaternion-values`,
-- `box-values`, `row-values`. Their hypotheses are what the code's own check has of such an argument.
use mathlib.Core.Path.{◌≡◌}
use mathlib.Core.Bool.{true}
use mathlib.Core.List.{List, [], ◌∷◌}
use native.Mathlib.Omega.{arith}
use lib.ListN.{length}
use lib.Ieee.{Float, binary32, fits}
use mir.Val.{Val}
use denote.Array.{each}
use denote.Floats.{FloatOf, passes}
use denote.Shadow.{shadow}
use Rattle.pose_slerp.specs.vector3.declared.Vector3f.{Vector3f}
use Rattle.pose_slerp.specs.quaternion.declared.Quaternion.{Quaternion}
use Rattle.pose_slerp.specs.bounds3.declared.Bounds3f.{Bounds3f}
use Rattle.pose_slerp.specs.matrix4x4.Rows.{Row}
use Rattle.pose_slerp.specs.pose_steps.Pose.{Vector3f-list, Quaternion-list, three}
use Rattle.pose_lean.specs.means.Values.{AllValues, Bounds3f-Values}

pub vector-values : (v : Vector3f) → fits binary32 v.x ≡ true → fits binary32 v.y ≡ true → fits binary32 v.z ≡ true → AllValues (Vector3f-list v)
vector-values v x y z = (passes (fits binary32 v.x) x, (passes (fits binary32 v.y) y, (passes (fits binary32 v.z) z, tt)))

pub quaternion-values : (q : Quaternion) → fits binary32 q.v.x ≡ true → fits binary32 q.v.y ≡ true → fits binary32 q.v.z ≡ true
    → fits binary32 q.w ≡ true → AllValues (Quaternion-list q)
quaternion-values q x y z w =
    (passes (fits binary32 q.v.x) x, (passes (fits binary32 q.v.y) y, (passes (fits binary32 q.v.z) z, (passes (fits binary32 q.w) w, tt))))

pub box-values : (b : Bounds3f)
    → fits binary32 b.p_min.x ≡ true → fits binary32 b.p_min.y ≡ true → fits binary32 b.p_min.z ≡ true
    → fits binary32 b.p_max.x ≡ true → fits binary32 b.p_max.y ≡ true → fits binary32 b.p_max.z ≡ true
    → Bounds3f-Values b
box-values b x0 y0 z0 x1 y1 z1 =
    let l = b.p_min in
    let h = b.p_max in
    record {
      low = (passes (fits binary32 l.x) x0, (passes (fits binary32 l.y) y0, (passes (fits binary32 l.z) z0, tt)));
      high = (passes (fits binary32 h.x) x1, (passes (fits binary32 h.y) y1, (passes (fits binary32 h.z) z1, tt)));
    }

-- A row of four.
pub row-values : (r : Row) (us : List Val) → length r ≡ 4 → shadow (each Float (FloatOf binary32).own_val r us) → AllValues (three r)
row-values [] us e h = absurd (omega (arith, e))
row-values (x ∷ []) us e h = absurd (omega (arith, e))
row-values (x ∷ y ∷ []) us e h = absurd (omega (arith, e))
row-values (x ∷ y ∷ z ∷ l) [] e h = absurd h
row-values (x ∷ y ∷ z ∷ l) (a ∷ []) e (p, h) = absurd h
row-values (x ∷ y ∷ z ∷ l) (a ∷ b ∷ []) e (p, (q, h)) = absurd h
row-values (x ∷ y ∷ z ∷ l) (a ∷ b ∷ c ∷ us) e (p, (q, (r, h))) =
    (passes (fits binary32 x) p.1, (passes (fits binary32 y) q.1, (passes (fits binary32 z) r.1, tt)))
