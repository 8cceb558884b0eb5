-- Four neighbouring pieces in lanes are the pieces lane by lane (`quarters-lanes`); so all pieces are (`halves-lanes`).
use Prim.Native.Nat.{ℕ, zero, suc, ◌-◌}
use mathlib.Core.Path.{◌≡◌, refl, sym, ap, ◌∙◌}
use mathlib.Core.Bool.{Bool}
use native.Mathlib.Omega.{arith}
use lib.Ieee.{Float}
use Rattle.matrix4x4.specs.declared.Matrix4x4.{Matrix4x4}
use Rattle.bounds3.specs.declared.Bounds3f.{Bounds3f}
use Rattle.interval.specs.declared.Interval.{Interval}
use Rattle.interval.specs.Interval.{Interval-midpoint}
use Rattle.pose_steps.specs.declared.PoseConstants.{PoseConstants}
use Rattle.pose_steps.specs.declared.IntervalVector.{IntervalVector}
use Rattle.pose_steps.specs.Pose.{is_near}
use Rattle.pose_steps.specs.Enclose.{Bounds3f-intervals}
use Rattle.lanes_rotation.specs.pose_lean.means.Lean.{second_by}
use Rattle.lanes_rotation.specs.lanes.means.Lanes.{Lane, Lanes-of}
use Rattle.lanes_rotation.specs.declared.LanesVector.{LanesVector}
use Rattle.lanes_rotation.specs.means.Matrices.{LanesVector-of}
use Rattle.lanes_box.specs.lanes_pose.means.Poses.{lanewise}
use Rattle.lanes_box.specs.means.Boxes.{IntervalVector-join}
use Rattle.cover_groups.specs.declared.Border.{Border}
use Rattle.cover_groups.specs.means.Groups.{Lanes-ends, Border-at, LanesBorders-from, LanesBorders-of, LanesVector-pieces}
use Rattle.cover_groups.proofs.Lanewise.{at_ends, LanesBorders-slices, pieces-apart}
use Rattle.window_groups.specs.means.Halves.{between, Border-between, LanesBorders-quarters, quarter, fold_halves, LanesVector-quarters}
use Rattle.window_groups.specs.means.Halves.{lean_over, join_quarter}

-- ---- borders
-- Where a border stands; it is the border there.
pub border-dt : (near : Bool) (theta t : Float) {m : Border} → m ≡ Border-at near theta t → m.dt ≡ t
unfolding Border-at
border-dt near theta t e = ap (λ (m : Border). m.dt) e

pub border-own : (near : Bool) (theta t : Float) {m : Border} → m ≡ Border-at near theta t → m ≡ Border-at near theta m.dt
border-own near theta t e = let d = sym (border-dt near theta t e) in e ∙ λ i. Border-at near theta (d i)

-- The same of one half way.
pub between-dt : (near : Bool) (theta low high : Float) {m : Border} → m ≡ Border-between near theta low high → m.dt ≡ Interval-midpoint (between low high)
unfolding Border-between
between-dt near theta low high e = border-dt near theta (Interval-midpoint (between low high)) e

pub between-at : (near : Bool) (theta low high : Float) {m : Border} → m ≡ Border-between near theta low high → m ≡ Border-at near theta m.dt
unfolding Border-between
between-at near theta low high e = border-own near theta (Interval-midpoint (between low high)) e

-- ---- halves
module _ {A : Type 0} (f : Float → Float → A → A) (low high : Float) (u : A) where
  pub fold-whole : (d : ℕ) → d ≡ 0 → fold_halves f d low high u ≡ f low high u
  unfolding fold_halves
  fold-whole zero e = refl
  fold-whole (suc d) e = absurd (omega (arith, e))

  pub fold-halves : (d : ℕ) → (d ≡ 0 → ⊥) → fold_halves f d low high u
      ≡ fold_halves f (d - 1) (Interval-midpoint (between low high)) high (fold_halves f (d - 1) low (Interval-midpoint (between low high)) u)
  unfolding fold_halves
  fold-halves zero e = absurd (e refl)
  fold-halves (suc d) e = let k : suc d - 1 ≡ d = omega arith in rw k

-- ---- four pieces
borders-quarters : (near : Bool) (theta low high : Float)
    → LanesBorders-quarters near theta low high ≡ LanesBorders-slices near theta (λ (l : Lane). quarter l (between low high))
unfolding LanesBorders-quarters LanesBorders-of LanesBorders-from LanesBorders-slices Lanes-ends Border-at Border-between at_ends lanewise
borders-quarters near theta low high = refl

module _ (a : PoseConstants) (s0 s1 : Matrix4x4) (pad0 pad1 : Float) (b : Bounds3f) where
  abbrev lean : Interval → IntervalVector
  lean = lean_over a s0 s1 pad0 pad1 b

  abbrev step : Float → Float → LanesVector → LanesVector
  step = LanesVector-quarters a (second_by (is_near a) a) s0 s1 pad0 pad1 (LanesVector-of (λ (l : Lane). Bounds3f-intervals b))

  quarters-lanes : (low high : Float) (f : Lane → IntervalVector)
      → step low high (LanesVector-of f) ≡ LanesVector-of (λ (l : Lane). join_quarter lean l low high (f l))
  unfolding LanesVector-quarters lean_over join_quarter
  quarters-lanes low high f =
      (λ i. LanesVector-pieces a (second_by (is_near a) a) s0 s1 pad0 pad1 (LanesVector-of (λ (l : Lane). Bounds3f-intervals b))
      (borders-quarters (is_near a) a.theta low high i) (LanesVector-of f))
      ∙ pieces-apart a s0 s1 pad0 pad1 b (λ (l : Lane). quarter l (between low high)) f

  -- ---- all pieces
  pub halves-lanes : (d : ℕ) (low high : Float) (f : Lane → IntervalVector)
      → fold_halves step d low high (LanesVector-of f) ≡ LanesVector-of (λ (l : Lane). fold_halves (join_quarter lean l) d low high (f l))
  unfolding fold_halves
  halves-lanes zero low high f = quarters-lanes low high f
  halves-lanes (suc d) low high f =
      let mid = Interval-midpoint (between low high) in
      ap (fold_halves step d mid high) (halves-lanes d low mid f)
      ∙ halves-lanes d mid high (λ (l : Lane). fold_halves (join_quarter lean l) d low mid (f l))
