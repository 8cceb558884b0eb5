-- Where the slices of a depth are accepted, with what stands before them, those of each greater depth are the lean ones but for zeros' signs, and so
-- is their union in rising order, `slices-lean`. In four lanes it is the same with its zeros +0: `lanes-zeros`, `groups-zeros`. In any other order it
-- is by `same-zeros-of`.
use Prim.Native.Nat.{ℕ, zero, suc, ◌+◌, ◌*◌, ◌/◌, ◌^◌, ◌≤◌, ◌<◌}
use mathlib.Core.Path.{◌≡◌, refl, sym, ap, subst, ◌∙◌}
use mathlib.Core.Bool.{Bool, true, false}
use native.Mathlib.Omega.{arith}
use lib.Dec.{T, eqb}
use lib.Ieee.{binary32}
use lib.Ieee.Fits.{round-fits}
use borrow.Author.Tests.{eqb-true, eqb-false}
use Rattle.pose_lean.specs.bounds3.declared.Bounds3f.{Bounds3f}
use Rattle.pose_lean.specs.bounds3.Bounds3f.{Bounds3f-union_bounds}
use Rattle.pose_lean.specs.bounds3.Finite.{Bounds3f-is_finite}
use Rattle.pose_lean.specs.bounds3.Inside.{Subset}
use Rattle.pose_lean.proofs.bounds3.Union.{subset-trans, finite-self}
use Rattle.pose_lean.specs.transform.declared.BoundsAnswer.{BoundsAnswer}
use Rattle.pose_lean.specs.transform.declared.BoundsAnswer.TheVariants.{Bounds}
use Rattle.bounds_answers.specs.bounds_query.Query.{BoundsAnswer-union_bounds}
use Rattle.bounds_answers.specs.bounds_query.Same.{BoundsAnswer-Same, same-box}
use Rattle.bounds_answers.specs.bounds_query.Zeros.{Bounds3f-positive_zeros, BoundsAnswer-positive_zeros}
use Rattle.bounds_answers.proofs.bounds_query.Union.{union-accepted, union-same}
use Rattle.dt_share.specs.interval.declared.Interval.{Interval}
use Rattle.dt_share.proofs.interval.Contains.{subset-finite}
use Rattle.dt_share.specs.unit_interval.Unit.{slice_end, slice}
use Rattle.dt_share.proofs.unit_interval.Slices.{slice-unit, slice-finer, finer-lt}
use Rattle.pose_lean.specs.alike.means.Alike.{Interval-Proper}
use Rattle.pose_lean.specs.pose_steps.declared.PoseConstants.{PoseConstants}
use Rattle.pose_lean.specs.pose_steps.declared.IntervalVector.{IntervalVector}
use Rattle.pose_lean.specs.pose_steps.Enclose.{Bounds3f-intervals, IntervalVector-bounds}
use Rattle.pose_lean.proofs.pose_steps.Angle.{unit-finite}
use Rattle.pose_lean.specs.means.Lean.{LeanPose-over, LeanPose-vector, LeanPose-box, Lean-box}
use Rattle.pose_lean.specs.means.Values.{PoseValues, Bounds3f-Values}
use Rattle.bounds_answers.specs.animated_transform.declared.AnimatedTransform.{AnimatedTransform}
use Rattle.bounds_answers.proofs.motion_pad.Zeros.{same-zeros, answers-zeros}
use Rattle.bounds_answers.specs.motion_cover.Cover.{Transform-enclose_padded, AnimatedTransform-enclose_bounds, AnimatedTransform-enclose_ends, union_slices}
use Rattle.bounds_answers.proofs.motion_cover.Zeros.{stored-valued, union-valued}
use Rattle.bounds_answers.proofs.motion_cover.Proper.{BoxRefines}
use Rattle.bounds_answers.specs.cover_depth.means.Piece.{Enclosable}
use Rattle.cover_lean.specs.means.Union.{union_of, stride, in_pairs}
use Rattle.cover_lean.proofs.Piece.{piece-lean}
use Rattle.cover_lean.proofs.Join.{Self, SameBox, lanes-same, groups-same}

-- ---- answers
-- A box that lies in and around the lean one is the answer's, with zeros +0.
pub same-zeros-of : {r : BoundsAnswer} {u x : Bounds3f} → BoundsAnswer-Same r (Bounds u) → Subset u x → Subset x u
    → BoundsAnswer-positive_zeros r ≡ Bounds (Bounds3f-positive_zeros x)
unfolding BoundsAnswer-positive_zeros
same-zeros-of {r} {u} {x} s p q = answers-zeros s ∙ ap Bounds (same-zeros p q)

-- What the two stored poses give is finite.
pub ends-finite : (m : AnimatedTransform) (b first : Bounds3f) → AnimatedTransform-enclose_ends m b ≡ Bounds first → T (Bounds3f-is_finite first)
unfolding AnimatedTransform-enclose_ends
ends-finite m b first e =
    ((union-valued (Transform-enclose_padded m.pad0 m.start_transform b) (Transform-enclose_padded m.pad1 m.end_transform b)
    (stored-valued m.pad0 m.start_transform b) (stored-valued m.pad1 m.end_transform b)).values first e).finite

-- ---- a slice
pub slice-proper : (d k : ℕ) → k < 2 ^ d → Interval-Proper (slice d k)
unfolding slice slice_end
slice-proper d k h = record {
  finite = subset-finite unit-finite (slice-unit d k h);
  values = record { low = round-fits binary32 false k (2 ^ d); high = round-fits binary32 false (k + 1) (2 ^ d) };
  rises = (slice-unit d k h).proper;
}

-- A box that was answered.
pub record Answered (r : BoundsAnswer) : Type 0 where
  pub box : Bounds3f
  pub accepted : r ≡ Bounds box

module _ (m : AnimatedTransform) (a : PoseConstants) (b : Bounds3f) where
  -- Each slice of an accepted union is accepted.
  pub slices-answered : (d n : ℕ) (r : BoundsAnswer) (c : Bounds3f) → union_slices m a b d r n ≡ Bounds c
      → (k : ℕ) → k < n → Answered (AnimatedTransform-enclose_bounds m a (slice d k) b)
  unfolding union_slices
  slices-answered d zero r c e k h = absurd (omega (arith, h))
  slices-answered d (suc n) r c e k h =
      let j = union-accepted (union_slices m a b d r n) (AnimatedTransform-enclose_bounds m a (slice d n) b) c e in
      go (record { box = j.right; accepted = j.right-accepted }) (λ (i : ℕ) (l : i < n). slices-answered d n r j.left j.left-accepted i l)
      (eqb k n) (eqb-true k n) (eqb-false k n)
    where
      go : Answered (AnimatedTransform-enclose_bounds m a (slice d n) b)
          → ((i : ℕ) → i < n → Answered (AnimatedTransform-enclose_bounds m a (slice d i) b))
          → (t : Bool) → (t ≡ true → k ≡ n) → (t ≡ false → k ≡ n → ⊥) → Answered (AnimatedTransform-enclose_bounds m a (slice d k) b)
      go z earlier true p q = subst (λ (i : ℕ). Answered (AnimatedTransform-enclose_bounds m a (slice d i) b)) (sym (p refl)) z
      go z earlier false p q = earlier k (omega (arith, h, q refl))

  module _ (parts : Enclosable a m.s0 m.s1 m.pad0 m.pad1) (values : PoseValues a m.s0 m.s1)
      (r : BoxRefines b) (numbers : Bounds3f-Values b) where
    abbrev pose : Interval → Bounds3f
    pose D = Lean-box a m.s0 m.s1 m.pad0 m.pad1 D b

    -- The lean box of slice k of depth e, as three intervals.
    abbrev vector : ℕ → ℕ → IntervalVector
    vector e k = LeanPose-vector (LeanPose-over a m.s0 m.s1 m.pad0 m.pad1 (slice e k)) (Bounds3f-intervals b)

    -- A slice of a greater depth.
    pub slice-lean : (d n k : ℕ) → k < 2 ^ (d + n) → Answered (AnimatedTransform-enclose_bounds m a (slice d (k / 2 ^ n)) b)
        → BoundsAnswer-Same (AnimatedTransform-enclose_bounds m a (slice (d + n) k) b) (Bounds (pose (slice (d + n) k)))
    unfolding AnimatedTransform-enclose_bounds
    slice-lean d n k h w =
        piece-lean parts values b r numbers (slice (d + n) k) (slice d (k / 2 ^ n)) w.box (slice-proper (d + n) k h) (slice-finer d n k)
        (slice-unit d (k / 2 ^ n) (finer-lt d n k h)) w.accepted

    module _ (d n : ℕ) (first c : Bounds3f) (f : T (Bounds3f-is_finite first)) (coarse : union_slices m a b d (Bounds first) (2 ^ d) ≡ Bounds c) where
      each : (k : ℕ) → k < 2 ^ (d + n) → BoundsAnswer-Same (AnimatedTransform-enclose_bounds m a (slice (d + n) k) b) (Bounds (pose (slice (d + n) k)))
      each k h = slice-lean d n k h (slices-answered d (2 ^ d) (Bounds first) c coarse (k / 2 ^ n) (finer-lt d n k h))

      -- In rising order.
      pub slices-lean : (k : ℕ) → k ≤ 2 ^ (d + n)
          → BoundsAnswer-Same (union_slices m a b (d + n) (Bounds first) k) (Bounds (union_of (λ (i : ℕ). pose (slice (d + n) i)) k first))
      unfolding union_slices union_of BoundsAnswer-union_bounds
      slices-lean zero l = same-box (finite-self f) (finite-self f)
      slices-lean (suc k) l = union-same (slices-lean k (omega (arith, l))) (each k (omega (arith, l)))

      -- Each lean box lies in itself.
      pub pose-self : (k : ℕ) → k < 2 ^ (d + n) → Self (IntervalVector-bounds (vector (d + n) k))
      unfolding Lean-box LeanPose-box
      pose-self k h = go (each k h)
        where
          go : {r : BoundsAnswer} {x : Bounds3f} → BoundsAnswer-Same r (Bounds x) → Self x
          go (same-box s t) = subset-trans t s

      zeros_of : {x : Bounds3f} (k : ℕ) → k ≡ 2 ^ (d + n) → SameBox (union_of (λ (i : ℕ). IntervalVector-bounds (vector (d + n) i)) k first) x
          → BoundsAnswer-positive_zeros (union_slices m a b (d + n) (Bounds first) (2 ^ (d + n))) ≡ Bounds (Bounds3f-positive_zeros x)
      unfolding Lean-box LeanPose-box
      zeros_of {x} k e s =
          let box : ℕ → Bounds3f = λ i. IntervalVector-bounds (vector (d + n) i) in
          let t = subst (λ (j : ℕ). SameBox (union_of box j first) x) e s in
          same-zeros-of (slices-lean (2 ^ (d + n)) (omega arith)) t.within t.around

      -- Every lane starts from what stands before; g groups of four.
      pub lanes-zeros : (g : ℕ) → 4 * g ≡ 2 ^ (d + n)
          → BoundsAnswer-positive_zeros (union_slices m a b (d + n) (Bounds first) (2 ^ (d + n)))
          ≡ Bounds (Bounds3f-positive_zeros (IntervalVector-bounds (in_pairs (λ (l : ℕ). stride (vector (d + n)) l g (Bounds3f-intervals first)))))
      lanes-zeros g e = zeros_of (4 * g) e (lanes-same (vector (d + n)) first (finite-self f) g (λ i h. pose-self i (subst (λ (j : ℕ). i < j) e h)))

      -- Lanes start from the first four slices; g groups follow.
      pub groups-zeros : (g : ℕ) → 4 + 4 * g ≡ 2 ^ (d + n)
          → BoundsAnswer-positive_zeros (union_slices m a b (d + n) (Bounds first) (2 ^ (d + n)))
          ≡ Bounds (Bounds3f-positive_zeros (Bounds3f-union_bounds first
          (IntervalVector-bounds (in_pairs (λ (l : ℕ). stride (λ (i : ℕ). vector (d + n) (4 + i)) l g (vector (d + n) l))))))
      groups-zeros g e = zeros_of (4 + 4 * g) e (groups-same (vector (d + n)) first (finite-self f) g (λ i h. pose-self i (subst (λ (j : ℕ). i < j) e h)))
