-- A cover with pads of +0 is equal to document 01's: `cover-unpadded`. The pad interval of every slice is then zero (`pad-zero`), and a box whose corners
-- are values of binary32 grows by zero to itself, a zero's sign aside (`grow-same`). Unions of such boxes are equal once their zeros are +0.
use Prim.Native.Nat.{ℕ, zero, suc, ◌≤◌, ◌^◌}
use mathlib.Core.Path.{◌≡◌, refl, ap, subst, ◌∙◌}
use mathlib.Core.Bool.{Bool, true, false, cond}
use native.Mathlib.Omega.{arith}
use lib.Dec.{T, eqb}
use borrow.Author.Tests.{eqb-true}
use lib.Ieee.{binary32, of_bits}
use lib.Ieee.Fits.{add-fits}
use lib.Ieee.Scale
use Rattle.motion_cover.proofs.rounding.Order.{between-finite}
use Rattle.motion_cover.specs.float32.Operators.{positive_zero, one}
use Rattle.motion_cover.specs.float32.MinMax.{max_num}
use Rattle.motion_cover.proofs.float32.Constants.{zero-finite, zero-refl}
use Rattle.motion_cover.specs.interval.declared.Interval.{Interval}
use Rattle.motion_cover.specs.interval.Judged.{Judged}
use Rattle.motion_cover.specs.interval.Contains as interval
use Rattle.motion_cover.specs.interval.Contains.{Refines}
use Rattle.motion_cover.specs.interval.Enclosure.{Interval-add_enclosure, Judged-judge, Judged-add_enclosure}
use Rattle.motion_cover.specs.bounds3.declared.Bounds3f.{Bounds3f}
use Rattle.motion_cover.specs.bounds3.Finite.{Bounds3f-is_finite}
use Rattle.motion_cover.specs.bounds3.Inside.{Subset}
use Rattle.motion_cover.proofs.bounds3.Finite.{low-finite, high-finite, box-finite}
use Rattle.motion_cover.proofs.bounds3.Union.{subset-trans, finite-self}
use Rattle.motion_cover.specs.transform.declared.Transform.{Transform}
use Rattle.motion_cover.specs.transform.declared.BoundsAnswer.{BoundsAnswer}
use Rattle.motion_cover.specs.transform.declared.BoundsAnswer.TheVariants.{Bounds, Refused}
use Rattle.motion_cover.specs.bounds_query.Query.{BoundsAnswer-union_bounds, cover_refusal}
use Rattle.motion_cover.specs.bounds_query.Same.{BoundsAnswer-Same, same-box, same-refusal}
use Rattle.motion_cover.specs.bounds_query.Zeros.{BoundsAnswer-positive_zeros}
use Rattle.motion_cover.proofs.bounds_query.Union.{union-same}
use Rattle.motion_cover.specs.unit_interval.Unit.{unit_interval, slice}
use Rattle.motion_cover.proofs.unit_interval.Slices.{slice-unit}
use Rattle.motion_cover.specs.formula.Enclose.{Expr-enclose, Expr-enclose_all, Program-enclose}
use Rattle.motion_cover.specs.formula.Promise.{Pairwise}
use Rattle.motion_cover.specs.pose_steps.declared.PoseConstants.{PoseConstants}
use Rattle.motion_cover.specs.pose_steps.declared.IntervalVector.{IntervalVector}
use Rattle.motion_cover.specs.pose_steps.declared.IntervalMatrix.{IntervalMatrix}
use Rattle.motion_cover.specs.pose_steps.Judged.{JudgedVector}
use Rattle.motion_cover.specs.pose_steps.Enclose.{IntervalVector-list, IntervalMatrix-point, Pose-enclose_transform_point}
use Rattle.motion_cover.specs.pose_steps.Enclose.{Pose-enclose_matrix, Pose-enclose_point, Bounds3f-intervals, IntervalVector-bounds}
use Rattle.motion_cover.proofs.pose_steps.Finite.{stored-refines}
use Rattle.motion_cover.proofs.pose_steps.Isotone.{transform_point-isotone, point-isotone}
use Rattle.motion_cover.proofs.pose_steps.Box.{refines-finite}
use Rattle.motion_cover.specs.animated_transform.declared.AnimatedTransform.{AnimatedTransform}
use Rattle.motion_cover.specs.animated_transform.Built.{StoredPose, Built}
use Rattle.motion_cover.proofs.animated_transform.Built.{built-judged}
use Rattle.motion_cover.specs.motion_point.TransformPoint.{AnimatedTransform-constants}
use Rattle.motion_cover.proofs.motion_point.Built.{built-valid, built-scales}
use Rattle.motion_cover.specs.motion_pad.Pad.{Pad-enclose, Pad-stored}
use Rattle.motion_cover.specs.motion_pad.Grow.{Bounds3f-grow, BoundsAnswer-grow}
use Rattle.motion_cover.specs.motion_pad.means.Computing as pad
use Rattle.motion_cover.proofs.motion_pad.Pad.{pad-high-within}
use Rattle.motion_cover.proofs.motion_pad.Box.{PadWithin, pad-within-finite, grow-subset, grow-box, grow-refused, grow-zero}
use Rattle.motion_cover.proofs.motion_pad.Zeros.{answers-zeros}
use Rattle.motion_cover.specs.Cover.{BoundsAnswer-from_enclosure, Transform-enclose_bounds, Transform-enclose_padded, AnimatedTransform-enclose_bounds}
use Rattle.motion_cover.specs.Cover.{AnimatedTransform-enclose_ends, union_slices, AnimatedTransform-enclose_motion, AnimatedTransform-cover}
use Rattle.motion_cover.proofs.Contains.{from-enclosure-accepted, motion-stored, motion-slices, cover-box}
use Rattle.motion_cover.proofs.Proper.{subset-self, BoxRefines, box-refines}
use Rattle.motion_cover.proofs.Zeros.{Values, Valued}
use Rattle.unpadded_cover.specs.Unpadded.{union_unpadded, AnimatedTransform-cover_unpadded, CoverUnpadded}

-- ---- pads of +0
unit-self : interval.Subset unit_interval unit_interval
unit-self = subset-self (slice-whole)
  where
    slice-whole : interval.Subset unit_interval unit_interval
    slice-whole = record { low = zero-refl; proper = record { holds = unfold pad.computing in tt }; high = record { holds = unfold pad.computing in tt } }

unit-pad : Pad-enclose positive_zero positive_zero unit_interval ≡ Pad-stored positive_zero
unfolding pad.computing
unit-pad = refl

pad-zero : {D : Interval} → interval.Subset D unit_interval
    → ((Pad-enclose positive_zero positive_zero D).refusal ≡ 0) × PadWithin (Pad-enclose positive_zero positive_zero D).interval.high positive_zero
pad-zero {D} u =
    let (z, w) = pad-high-within positive_zero positive_zero zero-finite zero-finite zero-refl zero-refl u unit-self (ap (λ (j : Judged). j.refusal) unit-pad) in
    (z, subst (λ (j : Judged). PadWithin (Pad-enclose positive_zero positive_zero D).interval.high j.interval.high) unit-pad w)

larger-zero : max_num positive_zero positive_zero ≡ positive_zero
unfolding pad.computing
larger-zero = refl

stored-zero : PadWithin positive_zero positive_zero
stored-zero = record { high-finite = zero-finite; from_zero = zero-refl; most = zero-refl }

-- ---- a box that has grown by zero
equal-finite : {b c : Bounds3f} → T (Bounds3f-is_finite b) → Subset c b → Subset b c → T (Bounds3f-is_finite c)
equal-finite {b} {c} f s t =
    let l = low-finite b f in
    let h = high-finite b f in
    box-finite c
    (record {
      x = between-finite l.x l.x s.x.0 t.x.0;
      y = between-finite l.y l.y s.y.0 t.y.0;
      z = between-finite l.z l.z s.z.0 t.z.0;
    })
    (record {
      x = between-finite h.x h.x t.x.1 s.x.1;
      y = between-finite h.y h.y t.y.1 s.y.1;
      z = between-finite h.z h.z t.z.1 s.z.1;
    })

grow-same : (pad : Judged) (r : BoundsAnswer) → pad.refusal ≡ 0
    → PadWithin pad.interval.high positive_zero → Valued r → BoundsAnswer-Same (BoundsAnswer-grow pad r) r
grow-same pad (Refused n) e w v = rw (grow-refused pad n) (same-refusal n)
grow-same pad (Bounds b) e w v =
    let f = (v.values b refl).finite in
    let F = pad-within-finite w in
    let (i, o) = grow-zero f (v.values b refl).low (v.values b refl).high in
    let inner : Subset (Bounds3f-grow pad.interval.high b) b = subset-trans (grow-subset F zero-finite w.most f f (finite-self f)) i in
    let outer : Subset b (Bounds3f-grow pad.interval.high b) = subset-trans o (grow-subset zero-finite F w.from_zero f f (finite-self f)) in
    rw (grow-box pad b e (equal-finite f inner outer)) (same-box inner outer)

-- ---- boxes of intervals
enclosed-values : (n : ℕ) (M : IntervalMatrix) (P : IntervalVector)
    → T (Bounds3f-is_finite (IntervalVector-bounds (Pose-enclose_transform_point n M P).vector))
    → Values (IntervalVector-bounds (Pose-enclose_transform_point n M P).vector)
unfolding Pose-enclose_transform_point Program-enclose Expr-enclose_all Expr-enclose Judged-add_enclosure Judged-judge Interval-add_enclosure
enclosed-values n M P f = record {
  finite = f;
  low = record { x = add-fits binary32 _ _; y = add-fits binary32 _ _; z = add-fits binary32 _ _ };
  high = record { x = add-fits binary32 _ _; y = add-fits binary32 _ _; z = add-fits binary32 _ _ };
}

enclosure-valued : (n : ℕ) (M : IntervalMatrix) (P : IntervalVector)
    → ((Pose-enclose_transform_point n M P).refusal ≡ 0
    → Pairwise Refines (IntervalVector-list (Pose-enclose_transform_point n M P).vector) (IntervalVector-list (Pose-enclose_transform_point n M P).vector))
    → Valued (BoundsAnswer-from_enclosure (Pose-enclose_transform_point n M P))
enclosure-valued n M P f =
    let j = Pose-enclose_transform_point n M P in
    record {
      values = λ b e.
          let g = from-enclosure-accepted j b e in
          subst Values g.bounds (enclosed-values n M P (refines-finite j.vector j.vector (f g.accepted)));
    }

-- ---- the cover
stored_same : (t : Transform) → StoredPose t → (b : Bounds3f) → BoxRefines b
    → BoundsAnswer-Same (Transform-enclose_padded positive_zero t b) (Transform-enclose_bounds t b)
unfolding Transform-enclose_padded Transform-enclose_bounds
stored_same t s b r =
    let B = Bounds3f-intervals b in
    let M = IntervalMatrix-point t.m in
    grow-same (Pad-stored positive_zero) _ refl stored-zero
    (enclosure-valued 0 M B (λ z. (transform_point-isotone 0 refl B B (stored-refines t.m s.matrix) r z).1))

module _ {m : AnimatedTransform} (built : Built m) (e0 : m.pad0 ≡ positive_zero) (e1 : m.pad1 ≡ positive_zero) (b : Bounds3f) (r : BoxRefines b) where
  abbrev a : PoseConstants
  a = AnimatedTransform-constants m

  piece-same : (D : Interval) → interval.Subset D unit_interval
      → BoundsAnswer-Same (AnimatedTransform-enclose_bounds m a D b) (BoundsAnswer-from_enclosure (Pose-enclose_point a m.s0 m.s1 D (Bounds3f-intervals b)))
  unfolding AnimatedTransform-enclose_bounds Pose-enclose_point
  piece-same D u =
      let B = Bounds3f-intervals b in
      let pose = Pose-enclose_matrix a m.s0 m.s1 D in
      let (s0, s1) = built-scales built in
      let (z, w) = pad-zero u in
      rw (e0, e1)
      (grow-same (Pad-enclose positive_zero positive_zero D) _ z w
      (enclosure-valued pose.refusal pose.matrix B (λ z. (point-isotone (built-valid built) s0 s1 u (subset-self u) B B r z).1)))

  start-same : BoundsAnswer-Same (Transform-enclose_padded m.pad0 m.start_transform b) (Transform-enclose_bounds m.start_transform b)
  start-same = rw e0 (stored_same m.start_transform (built-judged built).start b r)

  ends_same : BoundsAnswer-Same (AnimatedTransform-enclose_ends m b)
      (BoundsAnswer-union_bounds (Transform-enclose_bounds m.start_transform b) (Transform-enclose_bounds m.end_transform b))
  unfolding AnimatedTransform-enclose_ends
  ends_same =
      let end : BoundsAnswer-Same (Transform-enclose_padded m.pad1 m.end_transform b) (Transform-enclose_bounds m.end_transform b) =
      rw e1 (stored_same m.end_transform (built-judged built).end b r) in
      union-same start-same end

  slices-same : (d k : ℕ) → k ≤ 2 ^ d
      → BoundsAnswer-Same (union_slices m a b d (AnimatedTransform-enclose_ends m b) k)
      (union_unpadded m a b d (BoundsAnswer-union_bounds (Transform-enclose_bounds m.start_transform b) (Transform-enclose_bounds m.end_transform b)) k)
  unfolding union_slices union_unpadded
  slices-same d zero l = ends_same
  slices-same d (suc k) l = union-same (slices-same d k (omega (arith, l))) (piece-same (slice d k) (slice-unit d k (omega (arith, l))))

pub cover-unpadded : (m : AnimatedTransform) (b : Bounds3f) (d : ℕ) → CoverUnpadded m b d
unfolding AnimatedTransform-cover AnimatedTransform-cover_unpadded
cover-unpadded m b d built e0 e1 = go (eqb (cover_refusal b d) 0) m.actually_animated (eqb-true (cover_refusal b d) 0) refl
  where
    start : BoundsAnswer
    start = Transform-enclose_bounds m.start_transform b

    slices : BoundsAnswer
    slices = union_unpadded m (AnimatedTransform-constants m) b d (BoundsAnswer-union_bounds start (Transform-enclose_bounds m.end_transform b)) (2 ^ d)

    larger : Transform-enclose_padded (max_num m.pad0 m.pad1) m.start_transform b ≡ Transform-enclose_padded m.pad0 m.start_transform b
    larger = rw (e0, e1, larger-zero)

    go : (s t : Bool) → (s ≡ true → cover_refusal b d ≡ 0) → m.actually_animated ≡ t
        → cond s (BoundsAnswer-positive_zeros (AnimatedTransform-enclose_motion m b d)) (Refused (cover_refusal b d))
        ≡ cond s (BoundsAnswer-positive_zeros (cond t slices start)) (Refused (cover_refusal b d))
    go true true f g =
        ap BoundsAnswer-positive_zeros (motion-slices m b d g)
        ∙ answers-zeros (slices-same built e0 e1 b (box-refines b (cover-box b d (f refl))) d (2 ^ d) (omega arith))
    go true false f g =
        ap BoundsAnswer-positive_zeros (motion-stored m b d g ∙ larger) ∙ answers-zeros (start-same built e0 e1 b (box-refines b (cover-box b d (f refl))))
    go false t f g = refl
