-- The union of boxes in rising order, `union_of`; and in four lanes, by comparisons: lane l takes the boxes l, l + 4, .., and the four are joined in
-- pairs. Definitions only.
use Rattle.std.specs.Prelude.{ℕ, zero, suc, ◌+◌, ◌*◌}
use Rattle.pose_lean.specs.control_flow.Loop.{loop}
use Rattle.pose_lean.specs.bounds3.declared.Bounds3f.{Bounds3f}
use Rattle.pose_lean.specs.bounds3.Bounds3f.{Bounds3f-union_bounds}
use Rattle.dt_share.specs.interval.declared.Interval.{Interval}
use Rattle.pose_lean.specs.interval_unjudged.means.Ordered.{lesser, greater}
use Rattle.pose_lean.specs.pose_steps.declared.IntervalVector.{IntervalVector}

unfoldable pub union_of : (ℕ → Bounds3f) → ℕ → Bounds3f → Bounds3f
union_of f zero u = u
union_of f (suc n) u = Bounds3f-union_bounds (union_of f n u) (f n)

-- By one comparison an end.
abbrev pub Interval-join_ordered : Interval → Interval → Interval
Interval-join_ordered X Y = record { low = lesser X.low Y.low; high = greater X.high Y.high }

abbrev pub IntervalVector-join_ordered : IntervalVector → IntervalVector → IntervalVector
IntervalVector-join_ordered u v =
    record { x = Interval-join_ordered u.x v.x; y = Interval-join_ordered u.y v.y; z = Interval-join_ordered u.z v.z }

-- n boxes of lane l, joined to u.
abbrev pub stride : (ℕ → IntervalVector) → ℕ → ℕ → IntervalVector → IntervalVector
stride f l n u = loop (λ (g : ℕ). λ (v : IntervalVector). IntervalVector-join_ordered v (f (4 * g + l))) n u

abbrev pub in_pairs : (ℕ → IntervalVector) → IntervalVector
in_pairs s = IntervalVector-join_ordered (IntervalVector-join_ordered (s 0) (s 1)) (IntervalVector-join_ordered (s 2) (s 3))
