-- The loop over judged slices: after k of them stands the box of what was joined (`joined-next`). It is left in two ways: all slices are joined, or one is refused
-- (`slice-refused`), which then is the answer.
use Prim.Native.Nat.{ℕ, suc, ◌+◌, ◌^◌, ◌≤◌}
use mathlib.Core.Path.{◌≡◌}
use native.Mathlib.Numerals.{add-one}
use Rattle.bounds3.specs.declared.Bounds3f.{Bounds3f}
use Rattle.bounds3.specs.Bounds3f.{Bounds3f-union_bounds}
use Rattle.transform.specs.declared.BoundsAnswer.{BoundsAnswer}
use Rattle.transform.specs.declared.BoundsAnswer.TheVariants.{Bounds, Refused}
use Rattle.bounds_query.specs.Query.{BoundsAnswer-union_bounds}
use Rattle.pose_steps.specs.unit_interval.Unit.{slice}
use Rattle.pose_steps.specs.declared.PoseConstants.{PoseConstants}
use Rattle.animated_transform.specs.declared.AnimatedTransform.{AnimatedTransform}
use Rattle.motion_piece.specs.motion_cover.Cover.{AnimatedTransform-enclose_bounds, union_slices}
use Rattle.motion_piece.proofs.motion_cover.Slices.{union_slices-refused}

module _ (m : AnimatedTransform) (a : PoseConstants) (b : Bounds3f) (d : ℕ) (first : Bounds3f) (k : ℕ) (union : Bounds3f)
    (joined : union_slices m a b d (Bounds first) k ≡ Bounds union) (s : BoundsAnswer) (e : s ≡ AnimatedTransform-enclose_bounds m a (slice d k) b) where
  one-slice : union_slices m a b d (Bounds first) (suc k) ≡ BoundsAnswer-union_bounds (Bounds union) s
  unfolding union_slices
  one-slice = rw (joined, e)

  pub joined-next : (moved : Bounds3f) → s ≡ Bounds moved → (next : Bounds3f) → next ≡ Bounds3f-union_bounds union moved
      → union_slices m a b d (Bounds first) (k + 1) ≡ Bounds next
  unfolding BoundsAnswer-union_bounds
  joined-next moved f next g = rw (add-one, one-slice, f, g)

  pub slice-refused : (n : ℕ) → s ≡ Refused n → suc k ≤ 2 ^ d → union_slices m a b d (Bounds first) (2 ^ d) ≡ s
  unfolding BoundsAnswer-union_bounds
  slice-refused n f l = rw f (union_slices-refused m a b d (Bounds first) n (suc k) (2 ^ d) l (rw (one-slice, f)))
