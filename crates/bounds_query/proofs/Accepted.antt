-- What it says of a box that a query does not refuse it: `refusal-accepted`, its coordinates are finite and on each axis the least is not above the greatest.
use mathlib.Core.Path.{◌≡◌}
use mathlib.Core.Bool.{Bool, true, false, not, ◌||◌, cond}
use Prim.Native.Nat.{ℕ}
use native.Mathlib.Omega.{arith}
use lib.Dec.{T}
use lib.Ieee.{lt}
use Rattle.bounds3.specs.rounding.Order.{◌≼◌}
use Rattle.bounds3.proofs.rounding.Order.{finite_number, not-lt-≼}
use Rattle.bounds3.specs.declared.Bounds3f.{Bounds3f}
use Rattle.bounds3.specs.Finite.{Bounds3f-is_finite}
use Rattle.bounds3.proofs.Finite.{low-finite, high-finite}
use Rattle.bounds_query.specs.Query.{Bounds3f-is_ordered, Bounds3f-refusal}

both_hold : (s t : Bool) → ◌≡◌ {A = ℕ} (cond (not s) 6 (cond (not t) 7 0)) 0 → T s × T t
both_hold true true z = (tt, tt)
both_hold true false z = absurd (omega arith)
both_hold false t z = absurd (omega arith)

none-holds : (x y z : Bool) → T (not (x || y || z)) → T (not x) × T (not y) × T (not z)
none-holds false false false t = (tt, tt, tt)
none-holds false false true t = absurd t
none-holds false true z t = absurd t
none-holds true y z t = absurd t

pub refusal-accepted : (b : Bounds3f) → Bounds3f-refusal b ≡ 0
    → T (Bounds3f-is_finite b) × (b.p_min.x ≼ b.p_max.x) × (b.p_min.y ≼ b.p_max.y) × (b.p_min.z ≼ b.p_max.z)
unfolding Bounds3f-refusal Bounds3f-is_ordered
refusal-accepted b none =
    let (f, o) = both_hold (Bounds3f-is_finite b) (Bounds3f-is_ordered b) none in
    let l = b.p_min in
    let h = b.p_max in
    let F = low-finite b f in
    let G = high-finite b f in
    let (x, y, z) = none-holds (lt h.x l.x) (lt h.y l.y) (lt h.z l.z) o in (
      f,
      not-lt-≼ l.x h.x (finite_number l.x F.x) (finite_number h.x G.x) x,
      not-lt-≼ l.y h.y (finite_number l.y F.y) (finite_number h.y G.y) y,
      not-lt-≼ l.z h.z (finite_number l.z F.z) (finite_number h.z G.z) z,
    )
