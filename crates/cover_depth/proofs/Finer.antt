-- A finer cover of a built move is never a wider one: `cover-finer`. A part of an interval of dt is accepted where the whole is, and its box lies in
-- the whole's (`part-isotone`, `piece-isotone`), grown by no greater pad; so it is of a slice of a greater depth and the slice that it was cut from
-- (`piece-finer`). What lies in the coarse cover, part by part, has its union in it.
use Prim.Native.Nat.{ℕ, zero, suc, ◌+◌, ◌/◌, ◌^◌, ◌≤◌, ◌<◌}
use mathlib.Core.Path.{◌≡◌, refl, sym, ap, subst, ◌∙◌}
use mathlib.Core.Bool.{Bool, true, false}
use native.Mathlib.Omega.{arith}
use lib.Dec.{eqb}
use lib.Ieee.{Float}
use borrow.Author.Tests.{eqb-true, eqb-false, eq-eqb, le-ltb}
use Rattle.motion_cover.specs.bounds3.declared.Bounds3f.{Bounds3f}
use Rattle.motion_cover.specs.bounds3.Bounds3f.{Bounds3f-union_bounds}
use Rattle.motion_cover.specs.bounds3.Inside.{Subset}
use Rattle.motion_cover.proofs.bounds3.Union.{subset-trans, union-least, union_subset_left, union_subset_right}
use Rattle.motion_cover.specs.matrix4x4.declared.Matrix4x4.{Matrix4x4}
use Rattle.motion_cover.specs.transform.declared.BoundsAnswer.{BoundsAnswer}
use Rattle.motion_cover.specs.transform.declared.BoundsAnswer.TheVariants.{Bounds}
use Rattle.motion_cover.specs.transform.Answer.{BoundsAnswer-refusal, BoundsAnswer-bounds}
use Rattle.motion_cover.specs.bounds_query.Query.{Bounds3f-refusal, BoundsAnswer-union_bounds, max_depth, cover_refusal}
use Rattle.motion_cover.specs.bounds_query.Zeros.{Bounds3f-positive_zeros, BoundsAnswer-positive_zeros}
use Rattle.motion_cover.proofs.bounds_query.Union.{union-accepted}
use Rattle.motion_cover.proofs.bounds_query.Zeros.{zeros-box}
use Rattle.motion_cover.specs.interval.declared.Interval.{Interval}
use Rattle.motion_cover.specs.interval.Contains as interval
use Rattle.motion_cover.specs.unit_interval.Unit.{unit_interval, slice}
use Rattle.motion_cover.proofs.unit_interval.Slices.{slice-unit, slice-finer, finer-lt}
use Rattle.motion_cover.specs.pose_steps.declared.PoseConstants.{PoseConstants}
use Rattle.motion_cover.specs.pose_steps.Judged.{JudgedVector}
use Rattle.motion_cover.specs.pose_steps.Enclose.{Pose-enclose_point, Bounds3f-intervals, IntervalVector-bounds}
use Rattle.motion_cover.proofs.pose_steps.Isotone.{point-isotone}
use Rattle.motion_cover.proofs.pose_steps.Box.{refines-subset, refines-finite, wider-finite, refines-order, order-refl}
use Rattle.motion_cover.specs.animated_transform.declared.AnimatedTransform.{AnimatedTransform}
use Rattle.motion_cover.specs.animated_transform.Built.{Built}
use Rattle.motion_cover.proofs.animated_transform.Built.{built-judged}
use Rattle.motion_cover.specs.motion_point.TransformPoint.{AnimatedTransform-constants}
use Rattle.motion_cover.proofs.motion_point.Built.{built-valid, built-scales}
use Rattle.motion_cover.specs.motion_pad.Pad.{Pad-enclose}
use Rattle.motion_cover.specs.motion_pad.Grow.{Bounds3f-grow, BoundsAnswer-grow}
use Rattle.motion_cover.proofs.motion_pad.Pad.{pad-high-within}
use Rattle.motion_cover.proofs.motion_pad.Box.{grow-accepted, grow-isotone}
use Rattle.motion_cover.specs.Cover.{BoundsAnswer-from_enclosure, AnimatedTransform-enclose_bounds, AnimatedTransform-enclose_ends}
use Rattle.motion_cover.specs.Cover.{union_slices, AnimatedTransform-enclose_motion, AnimatedTransform-cover}
use Rattle.motion_cover.specs.Answer.{Proper}
use Rattle.motion_cover.proofs.Contains.{from-enclosure-accepted, motion-stored, motion-slices, cover-accepted, cover-box}
use Rattle.motion_cover.proofs.NonZero.{cover-answered}
use Rattle.motion_cover.proofs.Zeros.{motion-valued, zeros_within}
use Rattle.motion_cover.proofs.Proper.{box-order, BoxRefines, box-refines, piece-proper, ends-proper, slices-proper, subset-self, motion-proper}
use Rattle.cover_depth.specs.Finer.{Within, CoverFiner}
use Rattle.cover_depth.specs.means.Piece.{Pose-enclose_bounds, Enclosable}

-- ---- answers within a box
-- The answer is a box, and lies in c on every axis.
pub record BoxWithin (r : BoundsAnswer) (c : Bounds3f) : Type 0 where
  pub box : Bounds3f
  pub accepted : r ≡ Bounds box
  pub subset : Subset box c

pub box-within : {r : BoundsAnswer} {c : Bounds3f} → BoxWithin r c → Within r c
box-within {r} {c} w =
    let subset = subst (λ (b : Bounds3f). Subset b c) (sym (ap BoundsAnswer-bounds w.accepted)) w.subset in
    record { accepted = ap BoundsAnswer-refusal w.accepted; subset = subset }

pub within-subset : {r : BoundsAnswer} {c c' : Bounds3f} → BoxWithin r c → Subset c c' → BoxWithin r c'
within-subset w s = record { box = w.box; accepted = w.accepted; subset = subset-trans w.subset s }

proper-within : (r : BoundsAnswer) (c : Bounds3f) → Proper r → r ≡ Bounds c → BoxWithin r c
proper-within r c p e = record { box = c; accepted = e; subset = order-refl (box-order p e) }

pub union-within : (r s : BoundsAnswer) {c : Bounds3f} → BoxWithin r c → BoxWithin s c → BoxWithin (BoundsAnswer-union_bounds r s) c
unfolding BoundsAnswer-union_bounds
union-within r s f g =
    record { box = Bounds3f-union_bounds f.box g.box; accepted = rw (f.accepted, g.accepted); subset = union-least f.subset g.subset }

-- Both parts of an accepted union lie in it.
pub parts_within : (r s : BoundsAnswer) (c : Bounds3f) → Proper r → Proper s → BoundsAnswer-union_bounds r s ≡ Bounds c → BoxWithin r c × BoxWithin s c
parts_within r s c p q e =
    let j = union-accepted r s c e in (
      record {
        box = j.left;
        accepted = j.left-accepted;
        subset = subst (Subset j.left) j.union (union_subset_left j.right (order-refl (box-order p j.left-accepted)));
      },
      record {
        box = j.right;
        accepted = j.right-accepted;
        subset = subst (Subset j.right) j.union (union_subset_right j.left (order-refl (box-order q j.right-accepted)));
      },
    )

from-enclosure-box : (j : JudgedVector) → j.refusal ≡ 0 → BoundsAnswer-from_enclosure j ≡ Bounds (IntervalVector-bounds j.vector)
unfolding BoundsAnswer-from_enclosure
from-enclosure-box j e = rw (eq-eqb j.refusal 0 e)

-- ---- a part of an interval of dt, by the parts of a move
module _ {a : PoseConstants} {s0 s1 : Matrix4x4} {pad0 pad1 : Float} (parts : Enclosable a s0 s1 pad0 pad1) (b : Bounds3f) (r : BoxRefines b) where
  pub part-isotone : (D D' : Interval) (c : Bounds3f) → interval.Subset D D' → interval.Subset D' unit_interval
      → BoxWithin (Pose-enclose_bounds a s0 s1 pad0 pad1 D' b) c → BoxWithin (Pose-enclose_bounds a s0 s1 pad0 pad1 D b) c
  part-isotone D D' c s u w =
      let B = Bounds3f-intervals b in
      let p0 = parts.pad0-judged in
      let p1 = parts.pad1-judged in
      let whole = Pose-enclose_point a s0 s1 D' B in
      let part = Pose-enclose_point a s0 s1 D B in
      let pad = Pad-enclose pad0 pad1 D in
      let grown = grow-accepted (Pad-enclose pad0 pad1 D') (BoundsAnswer-from_enclosure whole) w.box w.accepted in
      let g = from-enclosure-accepted whole grown.before grown.worked in
      let (z, e) = point-isotone parts.constants parts.scale0 parts.scale1 u s B B r g.accepted in
      let (k, within) = pad-high-within pad0 pad1 p0.finite p1.finite p0.at-least-zero p1.at-least-zero s u grown.accepted in
      let box = IntervalVector-bounds part.vector in
      let (accepted, in_whole) = grow-isotone pad (Pad-enclose pad0 pad1 D') box (IntervalVector-bounds whole.vector) w.box k within
      (refines-order part.vector whole.vector e) (refines-finite part.vector whole.vector e) (wider-finite part.vector whole.vector e)
      (refines-subset part.vector whole.vector e)
      (subst (λ (x : Bounds3f). BoundsAnswer-grow (Pad-enclose pad0 pad1 D') (Bounds x) ≡ Bounds w.box) (sym g.bounds)
      (subst (λ (x : BoundsAnswer). BoundsAnswer-grow (Pad-enclose pad0 pad1 D') x ≡ Bounds w.box) grown.worked w.accepted)) in
      record {
        box = Bounds3f-grow pad.interval.high box;
        accepted = rw (from-enclosure-box part z) accepted;
        subset = subset-trans in_whole w.subset;
      }

pub built-enclosable : {m : AnimatedTransform} → Built m → Enclosable (AnimatedTransform-constants m) m.s0 m.s1 m.pad0 m.pad1
built-enclosable built =
    let j = built-judged built in
    let (s0, s1) = built-scales built in
    record { constants = built-valid built; scale0 = s0; scale1 = s1; pad0-judged = j.pad0; pad1-judged = j.pad1 }

module _ {m : AnimatedTransform} (built : Built m) (b : Bounds3f) (r : BoxRefines b) where
  pub piece-isotone : (D D' : Interval) (c : Bounds3f) → interval.Subset D D' → interval.Subset D' unit_interval
      → BoxWithin (AnimatedTransform-enclose_bounds m (AnimatedTransform-constants m) D' b) c
      → BoxWithin (AnimatedTransform-enclose_bounds m (AnimatedTransform-constants m) D b) c
  unfolding AnimatedTransform-enclose_bounds
  piece-isotone = part-isotone (built-enclosable built) b r

  -- a slice of a greater depth
  pub piece-finer : (d n k : ℕ) (c : Bounds3f) → k < 2 ^ (d + n)
      → BoxWithin (AnimatedTransform-enclose_bounds m (AnimatedTransform-constants m) (slice d (k / 2 ^ n)) b) c
      → BoxWithin (AnimatedTransform-enclose_bounds m (AnimatedTransform-constants m) (slice (d + n) k) b) c
  piece-finer d n k c h = piece-isotone (slice (d + n) k) (slice d (k / 2 ^ n)) c (slice-finer d n k) (slice-unit d (k / 2 ^ n) (finer-lt d n k h))

  -- ---- what an accepted union of ends and slices holds
  slices-within : (d k : ℕ) (c : Bounds3f) → k ≤ 2 ^ d → union_slices m (AnimatedTransform-constants m) b d (AnimatedTransform-enclose_ends m b) k ≡ Bounds c
      → BoxWithin (AnimatedTransform-enclose_ends m b) c
      × ((i : ℕ) → i < k → BoxWithin (AnimatedTransform-enclose_bounds m (AnimatedTransform-constants m) (slice d i) b) c)
  unfolding union_slices
  slices-within d zero c l e = (proper-within (AnimatedTransform-enclose_ends m b) c (ends-proper built b r) e, λ i h. absurd (omega (arith, h)))
  slices-within d (suc k) c l e =
      let a = AnimatedTransform-constants m in
      let before = union_slices m a b d (AnimatedTransform-enclose_ends m b) k in
      let u = slice-unit d k (omega (arith, l)) in
      let (v, w) = parts_within before (AnimatedTransform-enclose_bounds m a (slice d k) b) c
      (slices-proper built b r d k (omega (arith, l))) (piece-proper built b r (slice d k) u (subset-self u)) e in
      let (ends, earlier) = slices-within d k v.box (omega (arith, l)) v.accepted in (
        within-subset ends v.subset,
        λ i h. go i (eqb i k) (eqb-true i k) (eqb-false i k) h w (λ (i' : ℕ) (h' : i' < k). within-subset (earlier i' h') v.subset),
      )
    where
      go : (i : ℕ) (t : Bool) → (t ≡ true → i ≡ k) → (t ≡ false → i ≡ k → ⊥) → i < suc k
          → BoxWithin (AnimatedTransform-enclose_bounds m (AnimatedTransform-constants m) (slice d k) b) c
          → ((j : ℕ) → j < k → BoxWithin (AnimatedTransform-enclose_bounds m (AnimatedTransform-constants m) (slice d j) b) c)
          → BoxWithin (AnimatedTransform-enclose_bounds m (AnimatedTransform-constants m) (slice d i) b) c
      go i true f g h w earlier =
          subst (λ (j : ℕ). BoxWithin (AnimatedTransform-enclose_bounds m (AnimatedTransform-constants m) (slice d j) b) c) (sym (f refl)) w
      go i false f g h w earlier = earlier i (omega (arith, h, g refl))

  slices-finer : (d n : ℕ) (c : Bounds3f) → BoxWithin (AnimatedTransform-enclose_ends m b) c
      → ((i : ℕ) → i < 2 ^ d → BoxWithin (AnimatedTransform-enclose_bounds m (AnimatedTransform-constants m) (slice d i) b) c)
      → (k : ℕ) → k ≤ 2 ^ (d + n) → BoxWithin (union_slices m (AnimatedTransform-constants m) b (d + n) (AnimatedTransform-enclose_ends m b) k) c
  unfolding union_slices
  slices-finer d n c ends pieces zero l = ends
  slices-finer d n c ends pieces (suc k) l =
      let h : k < 2 ^ (d + n) = omega (arith, l) in
      union-within (union_slices m (AnimatedTransform-constants m) b (d + n) (AnimatedTransform-enclose_ends m b) k)
      (AnimatedTransform-enclose_bounds m (AnimatedTransform-constants m) (slice (d + n) k) b)
      (slices-finer d n c ends pieces k (omega (arith, l)))
      (piece-finer d n k c h (pieces (k / 2 ^ n) (finer-lt d n k h)))

  motion-finer : (d n : ℕ) (c : Bounds3f) → AnimatedTransform-enclose_motion m b d ≡ Bounds c → BoxWithin (AnimatedTransform-enclose_motion m b (d + n)) c
  motion-finer d n c e = go m.actually_animated refl
    where
      go : (t : Bool) → m.actually_animated ≡ t → BoxWithin (AnimatedTransform-enclose_motion m b (d + n)) c
      go false f =
          let accepted : AnimatedTransform-enclose_motion m b (d + n) ≡ Bounds c = rw (motion-stored m b (d + n) f, ← motion-stored m b d f) e in
          record { box = c; accepted = accepted; subset = order-refl (box-order (motion-proper built b r d) e) }
      go true f =
          let (ends, pieces) = slices-within d (2 ^ d) c (omega arith) (rw (← motion-slices m b d f) e) in
          subst (λ (x : BoundsAnswer). BoxWithin x c) (sym (motion-slices m b (d + n) f)) (slices-finer d n c ends pieces (2 ^ (d + n)) (omega arith))

-- ---- the query
pub arguments-finer : (b : Bounds3f) (d : ℕ) → Bounds3f-refusal b ≡ 0 → d ≤ max_depth → cover_refusal b d ≡ 0
unfolding cover_refusal
arguments-finer b d e l = rw (e, le-ltb max_depth d l)

pub cover-box-finer : {m : AnimatedTransform} → Built m → (b : Bounds3f) (d n : ℕ) (c : Bounds3f) → d + n ≤ max_depth → AnimatedTransform-cover m b d ≡ Bounds c
    → BoxWithin (AnimatedTransform-cover m b (d + n)) c
cover-box-finer {m} built b d n c l e =
    let a = cover-accepted m b d c e in
    let x = cover-box b d a.arguments in
    let w = motion-finer built b (box-refines b x) d n a.worked a.motion in
    let v = (motion-valued m b (d + n)).values w.box w.accepted in
    record {
      box = Bounds3f-positive_zeros w.box;
      accepted = accepted-cover (d + n) (arguments-finer b (d + n) x l) ∙ zeros-box w.accepted;
      subset = subset-trans (zeros_within v) (subset-trans w.subset a.around);
    }
  where
    accepted-cover : (k : ℕ) → cover_refusal b k ≡ 0 → AnimatedTransform-cover m b k ≡ BoundsAnswer-positive_zeros (AnimatedTransform-enclose_motion m b k)
    accepted-cover k z = unfold AnimatedTransform-cover in rw z

pub cover-finer : (m : AnimatedTransform) (b : Bounds3f) → CoverFiner m b
cover-finer m b d n built l e = box-within (cover-box-finer built b d n (BoundsAnswer-bounds (AnimatedTransform-cover m b d)) l (cover-answered m b d e))
