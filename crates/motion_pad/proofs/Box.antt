-- Boxes grown by a pad from 0 on. A grown box holds each point of the box, and it less and plus a pad that is no greater (`grow-padded`);
-- it is in order where the box is (`grow-order`), and a box in another, with no greater pad, grows to a box in the other's (`grow-subset`).
-- An answer that is grown was a box, and its pad was not refused (`grow-accepted`), and a part of it is accepted with it and lies in it
-- (`grow-isotone`). A pad of +0 leaves a box as it was, a zero's sign aside (`grow-zero`), and so does making its zeros +0 (`zeros-subset`).
use Prim.Native.Nat.{ℕ, zero, suc}
use mathlib.Core.Path.{◌≡◌, refl, sym, ap, subst, ◌∙◌}
use mathlib.Core.Bool.{Bool, true, false, cond}
use mathlib.Core.Logic.{◌⊎◌, inl, inr}
use lib.Dec.{T, eqb}
use native.Mathlib.Omega.{arith}
use borrow.Author.Tests.{eqb-true, eqb-false, eq-eqb, ne_eqb}
use lib.Ieee.{Float, binary32, fits}
use lib.Ieee.Bits.{is_true}
use lib.Ieee.Scale.{finite}
use Rattle.float32.specs.rounding.Order.{◌≼◌}
use Rattle.float32.proofs.rounding.Order.{≼_refl, ≼_trans, finite_number, between-finite}
use Rattle.float32.proofs.rounding.Arithmetic.{add-mono, sub-mono}
use Rattle.float32.specs.Operators.{◌⊕◌, ◌⊖◌, positive_zero}
use Rattle.float32.proofs.Constants.{zero-finite}
use Rattle.own_rounding.proofs.OwnRounding.{sub-add, add-above, sub-below, add-zero, sub-zero}
use Rattle.interval.specs.refusal.Outcome.{outcome}
use Rattle.interval.specs.Judged.{Judged, Judged-outcome, Judged-from}
use Rattle.bounds3.specs.declared.Point3f.{Point3f}
use Rattle.bounds3.specs.declared.Bounds3f.{Bounds3f}
use Rattle.bounds3.specs.Finite.{Bounds3f-is_finite}
use Rattle.bounds3.specs.Inside.{Inside, Subset}
use Rattle.bounds3.proofs.Finite.{low-finite, high-finite, box-finite}
use Rattle.transform.specs.declared.BoundsAnswer.{BoundsAnswer}
use Rattle.transform.specs.declared.BoundsAnswer.TheVariants.{Bounds, Refused}
use Rattle.transform.specs.Answer.{BoundsAnswer-refusal}
use Rattle.bounds_query.specs.Zeros.{Bounds3f-positive_zeros}
use Rattle.bounds_query.proofs.Union.{refused-bounds, bounds-same}
use Rattle.pose_steps.specs.Promise.{InOrder}
use Rattle.motion_pad.specs.Grow.{Point3f-less, Point3f-plus, Bounds3f-grow, BoundsAnswer-grow, PaddedInside}

-- Each coordinate is a value of binary32.
pub record Binary32 (q : Point3f) : Type 0 where
  pub x : T (fits binary32 q.x)
  pub y : T (fits binary32 q.y)
  pub z : T (fits binary32 q.z)

-- A pad from 0 to a finite `high`.
pub record PadWithin (pad high : Float) : Type 0 where
  pub high-finite : T (finite high)
  pub from_zero : positive_zero ≼ pad
  pub most : pad ≼ high

pub pad-within-finite : {pad high : Float} → PadWithin pad high → T (finite pad)
pad-within-finite w = between-finite zero-finite w.high-finite w.from_zero w.most

-- ---- one axis: l ≼ q ≼ h
module _ {pad high : Float} (w : PadWithin pad high) where
  abbrev F : T (finite high)
  F = w.high-finite

  abbrev z : positive_zero ≼ pad
  z = w.from_zero

  abbrev k : pad ≼ high
  k = w.most

  abbrev pad-finite : T (finite pad)
  pad-finite = pad-within-finite w

  module _ {l q h : Float} (fl : T (finite l)) (fh : T (finite h)) (i : (l ≼ q) × (q ≼ h)) where
    value-finite : T (finite q)
    value-finite = between-finite fl fh i.0 i.1

    from : l ⊖ high ≼ q ⊖ pad
    from = sub-mono binary32 fl value-finite F pad-finite i.0 k

    to : q ⊕ pad ≼ h ⊕ high
    to = add-mono binary32 value-finite fh pad-finite F i.1 k

    across : q ⊖ pad ≼ q ⊕ pad
    across = sub-add q pad value-finite pad-finite z

    axis-less : (l ⊖ high ≼ q ⊖ pad) × (q ⊖ pad ≼ h ⊕ high)
    axis-less = (from, ≼_trans across to)

    axis-plus : (l ⊖ high ≼ q ⊕ pad) × (q ⊕ pad ≼ h ⊕ high)
    axis-plus = (≼_trans from across, to)

    axis-point : T (fits binary32 q) → (l ⊖ high ≼ q) × (q ≼ h ⊕ high)
    axis-point b = (≼_trans from (sub-below q pad value-finite pad-finite z b), ≼_trans (add-above q pad value-finite pad-finite z b) to)

  -- ---- a box
  pub grow-padded : {b : Bounds3f} {q : Point3f} → T (Bounds3f-is_finite b) → Inside b q → Binary32 q → PaddedInside (Bounds3f-grow high b) pad q
  unfolding Bounds3f-grow
  grow-padded {b} {q} f i v =
      let l = low-finite b f in
      let h = high-finite b f in
      record {
        point = record { x = axis-point l.x h.x i.x v.x; y = axis-point l.y h.y i.y v.y; z = axis-point l.z h.z i.z v.z };
        less = record { x = axis-less l.x h.x i.x; y = axis-less l.y h.y i.y; z = axis-less l.z h.z i.z };
        plus = record { x = axis-plus l.x h.x i.x; y = axis-plus l.y h.y i.y; z = axis-plus l.z h.z i.z };
      }

pub grow-order : {b : Bounds3f} {pad : Float} → T (finite pad) → positive_zero ≼ pad → T (Bounds3f-is_finite b) → InOrder b → InOrder (Bounds3f-grow pad b)
unfolding Bounds3f-grow
grow-order {b} {pad} F z f o =
    let l = low-finite b f in
    let h = high-finite b f in
    record { x = apart l.x h.x o.x; y = apart l.y h.y o.y; z = apart l.z h.z o.z }
  where
    apart : {l h : Float} → T (finite l) → T (finite h) → l ≼ h → l ⊖ pad ≼ h ⊕ pad
    apart {l} {h} fl fh i = ≼_trans (sub-mono binary32 fl fh F F i (≼_refl pad (finite_number pad F))) (sub-add h pad fh F z)

pub grow-subset : {b c : Bounds3f} {pad high : Float} → T (finite pad) → T (finite high)
    → pad ≼ high → T (Bounds3f-is_finite b) → T (Bounds3f-is_finite c) → Subset b c
    → Subset (Bounds3f-grow pad b) (Bounds3f-grow high c)
unfolding Bounds3f-grow
grow-subset {b} {c} {pad} {high} F G k f g s =
    let l = low-finite b f in
    let h = high-finite b f in
    let l' = low-finite c g in
    let h' = high-finite c g in
    record { x = wider l.x h.x l'.x h'.x s.x; y = wider l.y h.y l'.y h'.y s.y; z = wider l.z h.z l'.z h'.z s.z }
  where
    wider : {l h l' h' : Float} → T (finite l) → T (finite h) → T (finite l') → T (finite h') → (l' ≼ l) × (h ≼ h')
        → (l' ⊖ high ≼ l ⊖ pad) × (h ⊕ pad ≼ h' ⊕ high)
    wider fl fh fl' fh' (i, j) = (sub-mono binary32 fl' fl G F i k, add-mono binary32 fh fh' F G j k)

-- What lies in a finite box, in order, is finite.
within-finite : {b c : Bounds3f} → InOrder b → Subset b c → T (Bounds3f-is_finite c) → T (Bounds3f-is_finite b)
within-finite {b} {c} o s f =
    let l = low-finite c f in
    let h = high-finite c f in
    box-finite b
    (record { x = low l.x h.x s.x o.x; y = low l.y h.y s.y o.y; z = low l.z h.z s.z o.z })
    (record { x = high l.x h.x s.x o.x; y = high l.y h.y s.y o.y; z = high l.z h.z s.z o.z })
  where
    low : {l l' h h' : Float} → T (finite l') → T (finite h') → (l' ≼ l) × (h ≼ h') → l ≼ h → T (finite l)
    low f g i j = between-finite f g i.0 (≼_trans j i.1)

    high : {l l' h h' : Float} → T (finite l') → T (finite h') → (l' ≼ l) × (h ≼ h') → l ≼ h → T (finite h)
    high f g i j = between-finite f g (≼_trans i.0 j) i.1

-- ---- an answer
pub record Grown (pad : Judged) (r : BoundsAnswer) (box : Bounds3f) : Type 0 where
  pub before : Bounds3f
  pub worked : r ≡ Bounds before
  pub accepted : pad.refusal ≡ 0
  pub finite : T (Bounds3f-is_finite (Bounds3f-grow pad.interval.high before))
  pub grown : Bounds3f-grow pad.interval.high before ≡ box

pub grow-accepted : (pad : Judged) (r : BoundsAnswer) (box : Bounds3f) → BoundsAnswer-grow pad r ≡ Bounds box → Grown pad r box
unfolding BoundsAnswer-grow
grow-accepted pad (Refused n) box e = absurd (refused-bounds n box e)
grow-accepted pad (Bounds b) box e = go (eqb pad.refusal 0) (Bounds3f-is_finite grown) (eqb-true pad.refusal 0) refl e
  where
    grown : Bounds3f
    grown = Bounds3f-grow pad.interval.high b

    go : (s t : Bool) → (s ≡ true → pad.refusal ≡ 0) → Bounds3f-is_finite grown ≡ t
        → cond s (cond t (Bounds grown) (Refused 5)) (Refused pad.refusal) ≡ Bounds box → Grown pad (Bounds b) box
    go true true f g e = record { before = b; worked = refl; accepted = f refl; finite = rw g tt; grown = bounds-same grown box e }
    go true false f g e = absurd (refused-bounds 5 box e)
    go false t f g e = absurd (refused-bounds pad.refusal box e)

pub grow-box : (pad : Judged) (b : Bounds3f) → pad.refusal ≡ 0 → T (Bounds3f-is_finite (Bounds3f-grow pad.interval.high b))
    → BoundsAnswer-grow pad (Bounds b) ≡ Bounds (Bounds3f-grow pad.interval.high b)
unfolding BoundsAnswer-grow
grow-box pad b e f = rw (eq-eqb pad.refusal 0 e, is_true (Bounds3f-is_finite (Bounds3f-grow pad.interval.high b)) f)

-- A box in another, with no greater pad, is accepted where the other is, and lies in it.
pub grow-isotone : (pad pad' : Judged) (b c box : Bounds3f) → pad.refusal ≡ 0 → PadWithin pad.interval.high pad'.interval.high
    → InOrder b → T (Bounds3f-is_finite b) → T (Bounds3f-is_finite c) → Subset b c
    → BoundsAnswer-grow pad' (Bounds c) ≡ Bounds box
    → (BoundsAnswer-grow pad (Bounds b) ≡ Bounds (Bounds3f-grow pad.interval.high b)) × Subset (Bounds3f-grow pad.interval.high b) box
grow-isotone pad pad' b c box e w o f f' s h =
    let g = grow-accepted pad' (Bounds c) box h in
    let same = bounds-same c g.before g.worked in
    let F = pad-within-finite w in
    let inside : Subset (Bounds3f-grow pad.interval.high b) (Bounds3f-grow pad'.interval.high c) = grow-subset F w.high-finite w.most f f' s in
    let whole : T (Bounds3f-is_finite (Bounds3f-grow pad'.interval.high c)) =
    subst (λ (x : Bounds3f). T (Bounds3f-is_finite (Bounds3f-grow pad'.interval.high x))) (sym same) g.finite in
    let order = grow-order F w.from_zero f o in (
      grow-box pad b e (within-finite order inside whole),
      subst (Subset (Bounds3f-grow pad.interval.high b)) (ap (Bounds3f-grow pad'.interval.high) same ∙ g.grown) inside,
    )

-- By a pad as code has it.
pub grow-from : (pad : Judged) (r : BoundsAnswer) → BoundsAnswer-grow pad r ≡ BoundsAnswer-grow (Judged-from (Judged-outcome pad)) r
unfolding BoundsAnswer-grow
grow-from pad (Refused n) = refl
grow-from pad (Bounds b) = go pad.refusal refl
  where
    go : (n : ℕ) → pad.refusal ≡ n → BoundsAnswer-grow pad (Bounds b) ≡ BoundsAnswer-grow (Judged-from (outcome pad.interval n)) (Bounds b)
    go zero e = rw e
    go (suc n) e = rw (e, ne_eqb (suc n) 0 (λ z. omega arith))

-- A refusal passes on.
pub grow-refused : (pad : Judged) (n : ℕ) → BoundsAnswer-grow pad (Refused n) ≡ Refused n
unfolding BoundsAnswer-grow
grow-refused pad n = refl

-- Of a box that is grown: what holds of every box, of 5, and of a pad's number that isn't 0.
pub grow-cases : (P : BoundsAnswer → Type 0) (pad : Judged) (r : BoundsAnswer) → P r → ((b : Bounds3f) → P (Bounds b)) → P (Refused 5)
    → ((pad.refusal ≡ 0 → ⊥) → P (Refused pad.refusal)) → P (BoundsAnswer-grow pad r)
unfolding BoundsAnswer-grow
grow-cases P pad (Refused n) h every five number = h
grow-cases P pad (Bounds b) h every five number = go (eqb pad.refusal 0) (Bounds3f-is_finite grown) (eqb-false pad.refusal 0)
  where
    grown : Bounds3f
    grown = Bounds3f-grow pad.interval.high b

    go : (s t : Bool) → (s ≡ false → pad.refusal ≡ 0 → ⊥) → P (cond s (cond t (Bounds grown) (Refused 5)) (Refused pad.refusal))
    go true true f = every grown
    go true false f = five
    go false t f = number (f refl)

-- ---- a pad of +0
pub grow-zero : {b : Bounds3f} → T (Bounds3f-is_finite b) → Binary32 b.p_min → Binary32 b.p_max
    → Subset (Bounds3f-grow positive_zero b) b × Subset b (Bounds3f-grow positive_zero b)
unfolding Bounds3f-grow
grow-zero {b} f u v =
    let l = low-finite b f in
    let h = high-finite b f in
    let p = b.p_min in
    let q = b.p_max in (
      record {
        x = ((sub-zero p.x l.x u.x).from, (add-zero q.x h.x v.x).to);
        y = ((sub-zero p.y l.y u.y).from, (add-zero q.y h.y v.y).to);
        z = ((sub-zero p.z l.z u.z).from, (add-zero q.z h.z v.z).to);
      },
      record {
        x = ((sub-zero p.x l.x u.x).to, (add-zero q.x h.x v.x).from);
        y = ((sub-zero p.y l.y u.y).to, (add-zero q.y h.y v.y).from);
        z = ((sub-zero p.z l.z u.z).to, (add-zero q.z h.z v.z).from);
      },
    )

-- ---- zeros made +0
pub zeros-subset : {b : Bounds3f} → T (Bounds3f-is_finite b) → Binary32 b.p_min → Binary32 b.p_max
    → Subset (Bounds3f-positive_zeros b) b × Subset b (Bounds3f-positive_zeros b)
unfolding Bounds3f-positive_zeros
zeros-subset {b} f u v =
    let l = low-finite b f in
    let h = high-finite b f in
    let p = b.p_min in
    let q = b.p_max in (
      record {
        x = ((add-zero p.x l.x u.x).from, (add-zero q.x h.x v.x).to);
        y = ((add-zero p.y l.y u.y).from, (add-zero q.y h.y v.y).to);
        z = ((add-zero p.z l.z u.z).from, (add-zero q.z h.z v.z).to);
      },
      record {
        x = ((add-zero p.x l.x u.x).to, (add-zero q.x h.x v.x).from);
        y = ((add-zero p.y l.y u.y).to, (add-zero q.y h.y v.y).from);
        z = ((add-zero p.z l.z u.z).to, (add-zero q.z h.z v.z).from);
      },
    )
