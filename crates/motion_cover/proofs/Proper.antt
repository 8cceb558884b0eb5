-- The corners of an accepted cover of a built move are finite and in order on each axis: `cover-proper`. An interval step narrows from its own
-- intervals to themselves, so that what it gives is not empty; a box in order grows to one in order, and a union of such boxes is in order.
use Prim.Native.Nat.{ℕ, zero, suc, ◌≤◌, ◌^◌}
use mathlib.Core.Path.{◌≡◌, refl, sym, ap, subst}
use mathlib.Core.Bool.{Bool, true, false, cond}
use native.Mathlib.Omega.{arith}
use lib.Dec.{T, eqb}
use borrow.Author.Tests.{eqb-true, eqb-false}
use lib.Ieee.{Float}
use lib.Ieee.Scale.{finite}
use Rattle.stored_box.specs.rounding.Order.{◌≼◌}
use Rattle.stored_box.proofs.rounding.Order.{≼_trans, ≼_refl, number-left, number-right, finite_number, between-finite}
use Rattle.stored_box.specs.interval.declared.Interval.{Interval}
use Rattle.stored_box.specs.interval.Judged.{Judged}
use Rattle.stored_box.specs.interval.Contains.{Subset, Refines}
use Rattle.stored_box.specs.bounds3.declared.Bounds3f.{Bounds3f}
use Rattle.stored_box.specs.bounds3.Bounds3f.{Bounds3f-union_bounds}
use Rattle.stored_box.specs.bounds3.Finite.{Bounds3f-is_finite}
use Rattle.stored_box.specs.bounds3.Inside.{Inside}
use Rattle.stored_box.specs.bounds3.Inside as bounds3
use Rattle.stored_box.proofs.bounds3.Finite.{low-finite, high-finite, box-finite, union-finite}
use Rattle.stored_box.proofs.bounds3.Union.{union-inside-left}
use Rattle.stored_box.specs.transform.declared.Transform.{Transform}
use Rattle.stored_box.specs.transform.declared.BoundsAnswer.{BoundsAnswer}
use Rattle.stored_box.specs.transform.declared.BoundsAnswer.TheVariants.{Bounds, Refused}
use Rattle.stored_box.specs.transform.Answer.{BoundsAnswer-refusal, BoundsAnswer-bounds}
use Rattle.stored_box.specs.bounds_query.Query.{Bounds3f-refusal, BoundsAnswer-union_bounds, cover_refusal}
use Rattle.stored_box.specs.bounds_query.Zeros.{Bounds3f-positive_zeros, BoundsAnswer-positive_zeros}
use Rattle.stored_box.proofs.bounds_query.Accepted.{refusal-accepted}
use Rattle.stored_box.specs.unit_interval.Unit.{unit_interval, slice}
use Rattle.stored_box.proofs.unit_interval.Slices.{slice-unit}
use Rattle.stored_box.specs.formula.Promise.{Pairwise}
use Rattle.stored_box.specs.pose_steps.Judged.{JudgedVector}
use Rattle.stored_box.specs.pose_steps.Enclose.{IntervalVector-list, IntervalMatrix-point, Pose-enclose_transform_point}
use Rattle.stored_box.specs.pose_steps.Enclose.{Pose-enclose_point, Bounds3f-intervals, IntervalVector-bounds}
use Rattle.stored_box.specs.pose_steps.Promise.{InOrder}
use Rattle.stored_box.proofs.pose_steps.Finite.{stored-refines}
use Rattle.stored_box.proofs.pose_steps.Isotone.{transform_point-isotone, point-isotone}
use Rattle.stored_box.proofs.pose_steps.Box.{subset-refines, refines-finite, refines-order, order-refl}
use Rattle.motion_point.specs.animated_transform.declared.AnimatedTransform.{AnimatedTransform}
use Rattle.motion_point.specs.animated_transform.Built.{StoredPose, Pad-Judged, Built}
use Rattle.motion_point.proofs.animated_transform.Built.{built-judged}
use Rattle.motion_point.specs.TransformPoint.{AnimatedTransform-constants}
use Rattle.motion_point.proofs.Built.{built-valid, built-scales}
use Rattle.motion_pad.specs.Pad.{Pad-enclose, Pad-stored}
use Rattle.motion_pad.specs.Grow.{Bounds3f-grow, BoundsAnswer-grow}
use Rattle.motion_pad.proofs.Pad.{pad-high-within}
use Rattle.motion_pad.proofs.Box.{PadWithin, grow-order}
use Rattle.motion_cover.specs.Cover.{BoundsAnswer-from_enclosure, Transform-enclose_bounds, Transform-enclose_padded, AnimatedTransform-enclose_bounds}
use Rattle.motion_cover.specs.Cover.{AnimatedTransform-enclose_ends, union_slices, AnimatedTransform-enclose_motion, AnimatedTransform-cover}
use Rattle.motion_cover.specs.Answer.{Proper}
use Rattle.motion_cover.proofs.Contains.{pad-itself, larger-judged, motion-stored, motion-slices, cover-box}
use Rattle.motion_cover.proofs.Zeros.{Values, Valued, motion-valued, zeros_within, zeros-around}

-- ---- a box, and a number that was tested
box-proper : (b : Bounds3f) → T (Bounds3f-is_finite b) → InOrder b → Proper (Bounds b)
box-proper b f o = record { finite = λ _. f; order = λ _. o }

tested : (n : ℕ) (r : BoundsAnswer) → (n ≡ 0 → Proper r) → Proper (cond (eqb n 0) r (Refused n))
tested n r p = go (eqb n 0) (eqb-true n 0) (eqb-false n 0)
  where
    go : (b : Bool) → (b ≡ true → n ≡ 0) → (b ≡ false → n ≡ 0 → ⊥) → Proper (cond b r (Refused n))
    go true f g = p (f refl)
    go false f g = record { finite = λ e. absurd (g refl e); order = λ e. absurd (g refl e) }

-- The order of a box that was answered.
pub box-order : {r : BoundsAnswer} {box : Bounds3f} → Proper r → r ≡ Bounds box → InOrder box
box-order p e = subst InOrder (ap BoundsAnswer-bounds e) (p.order (ap BoundsAnswer-refusal e))

-- ---- an enclosure
enclosure-proper : (j : JudgedVector) → (j.refusal ≡ 0 → Pairwise Refines (IntervalVector-list j.vector) (IntervalVector-list j.vector))
    → Proper (BoundsAnswer-from_enclosure j)
unfolding BoundsAnswer-from_enclosure
enclosure-proper j f =
    let box = IntervalVector-bounds j.vector in
    tested j.refusal (Bounds box) (λ e. box-proper box (refines-finite j.vector j.vector (f e)) (refines-order j.vector j.vector (f e)))

-- ---- a box that has grown
refused-proper : (n : ℕ) → (n ≡ 0 → ⊥) → Proper (Refused n)
refused-proper n h = record { finite = λ e. absurd (h e); order = λ e. absurd (h e) }

grow-proper : (pad : Judged) (r : BoundsAnswer) {here : Float}
    → (pad.refusal ≡ 0 → PadWithin here pad.interval.high) → Proper r → Proper (BoundsAnswer-grow pad r)
unfolding BoundsAnswer-grow
grow-proper pad (Refused n) w p = p
grow-proper pad (Bounds b) w p = go (eqb pad.refusal 0) (Bounds3f-is_finite grown) (eqb-true pad.refusal 0) (eqb-false pad.refusal 0) refl
  where
    grown : Bounds3f
    grown = Bounds3f-grow pad.interval.high b

    go : (s t : Bool) → (s ≡ true → pad.refusal ≡ 0) → (s ≡ false → pad.refusal ≡ 0 → ⊥) → Bounds3f-is_finite grown ≡ t
        → Proper (cond s (cond t (Bounds grown) (Refused 5)) (Refused pad.refusal))
    go true true f g e =
        let h = w (f refl) in
        box-proper grown (rw e tt) (grow-order h.high-finite (≼_trans h.from_zero h.most) (p.finite refl) (p.order refl))
    go true false f g e = refused-proper 5 (λ z. absurd (omega (arith, z)))
    go false t f g e = refused-proper pad.refusal (g refl)

-- ---- unions
union-order : (a b : Bounds3f) → T (Bounds3f-is_finite a) → InOrder a → InOrder (Bounds3f-union_bounds a b)
union-order a b f o =
    let l = low-finite a f in
    let p = a.p_min in
    let i : Inside a p = record {
      x = (≼_refl p.x (finite_number p.x l.x), o.x);
      y = (≼_refl p.y (finite_number p.y l.y), o.y);
      z = (≼_refl p.z (finite_number p.z l.z), o.z);
    } in
    let u = union-inside-left b i in
    record { x = ≼_trans u.x.0 u.x.1; y = ≼_trans u.y.0 u.y.1; z = ≼_trans u.z.0 u.z.1 }

pub union-proper : (r s : BoundsAnswer) → Proper r → Proper s → Proper (BoundsAnswer-union_bounds r s)
unfolding BoundsAnswer-union_bounds
union-proper (Bounds a) (Bounds b) f g =
    box-proper (Bounds3f-union_bounds a b) (union-finite a b (f.finite refl) (g.finite refl)) (union-order a b (f.finite refl) (f.order refl))
union-proper (Bounds a) (Refused n) f g = g
union-proper (Refused n) s f g = f

-- ---- an interval in another lies in itself
pub subset-self : {D E : Interval} → Subset D E → Subset D D
subset-self {D} u = record { low = ≼_refl D.low (number-left u.proper); proper = u.proper; high = ≼_refl D.high (number-right u.proper) }

-- ---- the parts of a cover, for a box that has passed its tests
abbrev pub BoxRefines : Bounds3f → Type 0
BoxRefines b = Pairwise Refines (IntervalVector-list (Bounds3f-intervals b)) (IntervalVector-list (Bounds3f-intervals b))

pub box-refines : (b : Bounds3f) → Bounds3f-refusal b ≡ 0 → BoxRefines b
box-refines b e =
    let (f, x, y, z) = refusal-accepted b e in
    let o : InOrder b = record { x = x; y = y; z = z } in
    subset-refines b o f (order-refl o)

stored-proper : {pad : Float} → Pad-Judged pad → (t : Transform) → StoredPose t → (b : Bounds3f) → BoxRefines b → Proper (Transform-enclose_padded pad t b)
unfolding Transform-enclose_padded Transform-enclose_bounds
stored-proper {pad} w t s b r =
    let B = Bounds3f-intervals b in
    let M = IntervalMatrix-point t.m in
    grow-proper (Pad-stored pad) _ (λ _. pad-itself w)
    (enclosure-proper (Pose-enclose_transform_point 0 M B) (λ z. (transform_point-isotone 0 refl B B (stored-refines t.m s.matrix) r z).1))

module _ {m : AnimatedTransform} (built : Built m) (b : Bounds3f) (r : BoxRefines b) where
  pub piece-proper : (D : Interval) → Subset D unit_interval → Subset D D → Proper (AnimatedTransform-enclose_bounds m (AnimatedTransform-constants m) D b)
  unfolding AnimatedTransform-enclose_bounds
  piece-proper D u w =
      let B = Bounds3f-intervals b in
      let (s0, s1) = built-scales built in
      let j = built-judged built in
      grow-proper (Pad-enclose m.pad0 m.pad1 D) _
      (λ e. (pad-high-within m.pad0 m.pad1 j.pad0.finite j.pad1.finite j.pad0.at-least-zero j.pad1.at-least-zero w u e).1)
      (enclosure-proper (Pose-enclose_point (AnimatedTransform-constants m) m.s0 m.s1 D B) (λ z. (point-isotone (built-valid built) s0 s1 u w B B r z).1))

  pub ends-proper : Proper (AnimatedTransform-enclose_ends m b)
  unfolding AnimatedTransform-enclose_ends
  ends-proper =
      let j = built-judged built in
      union-proper (Transform-enclose_padded m.pad0 m.start_transform b) (Transform-enclose_padded m.pad1 m.end_transform b)
      (stored-proper j.pad0 m.start_transform j.start b r) (stored-proper j.pad1 m.end_transform j.end b r)

  pub slices-proper : (d n : ℕ) → n ≤ 2 ^ d → Proper (union_slices m (AnimatedTransform-constants m) b d (AnimatedTransform-enclose_ends m b) n)
  unfolding union_slices
  slices-proper d zero l = ends-proper
  slices-proper d (suc n) l =
      let u = slice-unit d n (omega (arith, l)) in
      union-proper (union_slices m (AnimatedTransform-constants m) b d (AnimatedTransform-enclose_ends m b) n)
      (AnimatedTransform-enclose_bounds m (AnimatedTransform-constants m) (slice d n) b)
      (slices-proper d n (omega (arith, l))) (piece-proper (slice d n) u (subset-self u))

  pub motion-proper : (d : ℕ) → Proper (AnimatedTransform-enclose_motion m b d)
  motion-proper d = go m.actually_animated refl
    where
      go : (x : Bool) → m.actually_animated ≡ x → Proper (AnimatedTransform-enclose_motion m b d)
      go false e =
          let j = built-judged built in
          subst Proper (sym (motion-stored m b d e)) (stored-proper (larger-judged j.pad0 j.pad1) m.start_transform j.start b r)
      go true e = subst Proper (sym (motion-slices m b d e)) (slices-proper d (2 ^ d) (omega arith))

-- ---- zeros made +0
zeros-proper : (r : BoundsAnswer) → Valued r → Proper r → Proper (BoundsAnswer-positive_zeros r)
unfolding BoundsAnswer-positive_zeros
zeros-proper (Refused n) v p = p
zeros-proper (Bounds b) v p = record { finite = λ _. finite; order = λ _. order }
  where
    w : Values b
    w = v.values b refl

    s : bounds3.Subset (Bounds3f-positive_zeros b) b
    s = zeros_within w

    t : bounds3.Subset b (Bounds3f-positive_zeros b)
    t = zeros-around w

    o : InOrder b
    o = p.order refl

    finite : T (Bounds3f-is_finite (Bounds3f-positive_zeros b))
    finite =
        let l = low-finite b w.finite in
        let h = high-finite b w.finite in
        box-finite (Bounds3f-positive_zeros b)
        (record {
          x = between-finite l.x l.x s.x.0 t.x.0;
          y = between-finite l.y l.y s.y.0 t.y.0;
          z = between-finite l.z l.z s.z.0 t.z.0;
        })
        (record {
          x = between-finite h.x h.x t.x.1 s.x.1;
          y = between-finite h.y h.y t.y.1 s.y.1;
          z = between-finite h.z h.z t.z.1 s.z.1;
        })

    order : InOrder (Bounds3f-positive_zeros b)
    order = record {
      x = ≼_trans t.x.0 (≼_trans o.x t.x.1);
      y = ≼_trans t.y.0 (≼_trans o.y t.y.1);
      z = ≼_trans t.z.0 (≼_trans o.z t.z.1);
    }

pub cover-proper : {m : AnimatedTransform} → Built m → (b : Bounds3f) (d : ℕ) → Proper (AnimatedTransform-cover m b d)
unfolding AnimatedTransform-cover
cover-proper {m} built b d =
    tested (cover_refusal b d) (BoundsAnswer-positive_zeros (AnimatedTransform-enclose_motion m b d))
    (λ e. zeros-proper (AnimatedTransform-enclose_motion m b d) (motion-valued m b d) (motion-proper built b (box-refines b (cover-box b d e)) d))
