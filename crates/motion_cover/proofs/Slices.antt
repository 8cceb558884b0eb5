-- What a loop over the slices of a cover rests on: a refusal stays over the slices that follow (`union_slices-refused`, `refused-first`), and the code's numbers
-- are the definition's at the depths of a cover (`slice-count`, `slice-end`).
use Prim.Native.Nat.{ℕ, zero, suc, ◌*◌, ◌%◌, ◌^◌, ◌≤◌, zero-le}
use mathlib.Core.Path.{◌≡◌, refl}
use mathlib.Core.Bool.{false}
use mathlib.Core.Logic.{⊎_elim}
use native.Mathlib.Nat.{eq-or-lt_of_le, le_of_suc-le-suc, mod-eq_of_lt}
use native.Mathlib.Omega.{arith}
use lib.Pow.{shl_exact}
use lib.Ieee.{binary32, round}
use Rattle.stored_box.specs.bounds3.declared.Bounds3f.{Bounds3f}
use Rattle.stored_box.specs.transform.declared.BoundsAnswer.{BoundsAnswer}
use Rattle.stored_box.specs.transform.declared.BoundsAnswer.TheVariants.{Refused}
use Rattle.stored_box.specs.bounds_query.Query.{BoundsAnswer-union_bounds, max_depth}
use Rattle.stored_box.specs.unit_interval.Unit.{slice_end}
use Rattle.stored_box.specs.pose_steps.declared.PoseConstants.{PoseConstants}
use Rattle.motion_point.specs.animated_transform.declared.AnimatedTransform.{AnimatedTransform}
use Rattle.motion_cover.specs.Cover.{union_slices}

pub union_slices-refused : (m : AnimatedTransform) (a : PoseConstants) (b : Bounds3f) (d : ℕ) (r : BoundsAnswer) (n i k : ℕ)
    → i ≤ k → union_slices m a b d r i ≡ Refused n → union_slices m a b d r k ≡ Refused n
unfolding union_slices BoundsAnswer-union_bounds
union_slices-refused m a b d r n i zero h e = let z : i ≡ 0 = omega arith in rw z at e
union_slices-refused m a b d r n i (suc k) h e =
    ⊎_elim (λ z. rw z at e) (λ l. rw (union_slices-refused m a b d r n i k (le_of_suc-le-suc l) e)) (eq-or-lt_of_le h)

pub refused-first : (m : AnimatedTransform) (a : PoseConstants) (b : Bounds3f) (d n k : ℕ) → union_slices m a b d (Refused n) k ≡ Refused n
unfolding union_slices
refused-first m a b d n k = union_slices-refused m a b d (Refused n) n 0 k zero-le refl

-- ---- numbers of the loop, at the depths of a cover
-- The code's count of slices is a shift in 64 bits.
pub slice-count : (d : ℕ) → d ≤ max_depth → 1 * 2 ^ d % 2 ^ 64 ≡ 1 * 2 ^ d
slice-count d h = shl_exact 1 d 64 (omega arith) (omega arith)

-- `from_fixed` takes its depth modulo 64.
pub slice-end : (d k : ℕ) → d ≤ max_depth → round binary32 false k (2 ^ (d % 64)) ≡ slice_end d k
unfolding slice_end
slice-end d k h = let e : d % 64 ≡ d = mod-eq_of_lt (omega arith) in rw e
