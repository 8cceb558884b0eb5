-- Each part of a box lies in it and is refused by no query, `parts_within`; every point of the box is inside some part, `parts-cover`.
-- On the longest axis by its faces (`Faces.antt`), on the others the part is the box.
use Prim.Native.Nat.{ℕ, zero, suc, ◌+◌, ◌*◌, ◌≤◌, ◌<◌}
use native.Mathlib.Omega.{arith}
use mathlib.Core.Path.{◌≡◌, refl, sym, ap, subst, ◌∙◌}
use mathlib.Core.Logic.{◌⊎◌, inl, inr}
use mathlib.Core.Bool.{Bool, true, false, not, ◌&&◌, ◌||◌, cond}
use mathlib.Core.List.{List, [], ◌∷◌, ◌++◌}
use borrow.Author.Tests.{eqb-true, eqb-false, ltb-false, eq-eqb}
use lib.Dec.{T, eqb, ltb, eqb→eq, ltb→lt}
use lib.ListN.{length, get_or, length-append, get_or-append}
use lib.Seq.{get_or_at}
use lib.Ieee.{Float, nan, inf, fin, binary32, up, down, fits, below, level, lt, le}
use lib.Ieee.Bits.{is_true}
use lib.Ieee.Fits.{and_l, and_r}
use lib.Ieee.Scale.{finite}
use Rattle.own_rounding.specs.rounding.Order.{◌≼◌}
use Rattle.own_rounding.proofs.rounding.Order.{≼_refl, ≼_trans, finite_number, between-finite}
use Rattle.bounds_query.specs.bounds3.declared.Point3f.{Point3f}
use Rattle.bounds_query.specs.bounds3.declared.Bounds3f.{Bounds3f}
use Rattle.bounds_query.specs.bounds3.List.{Bounds3f-list, Bounds3f-of_list}
use Rattle.bounds_query.specs.bounds3.Inside.{Inside, Subset}
use Rattle.bounds_query.specs.bounds3.Finite.{Bounds3f-is_finite, Finite}
use Rattle.bounds_query.proofs.bounds3.Finite.{low-finite, high-finite, box-finite}
use Rattle.bounds_query.specs.Query.{Bounds3f-is_ordered, Bounds3f-refusal}
use Rattle.bounds_query.proofs.Accepted.{refusal-accepted}
use Rattle.lent_laws.proofs.Front.{front_at}
use Rattle.cut_laws.specs.Cut.{max_parts, cut_refusal, face, longest_x, longest_y, with_x, with_y, with_z, Bounds3f-part, Bounds3f-parts, Bounds3f-cut}
use Rattle.cut_laws.specs.Theorem.{part_at, PartWithin, PartsWithin, SomePart, PartsCover}
use Rattle.cut_laws.proofs.Faces.{face-low, face-high, face-rises, face-found}

-- The least corner's coordinates are values of binary32, as every f32 is.
pub record LowFits (b : Bounds3f) : Type 0 where
  pub x : T (fits binary32 b.p_min.x)
  pub y : T (fits binary32 b.p_min.y)
  pub z : T (fits binary32 b.p_min.z)

-- ---- what was accepted
record Axis (l h : Float) : Type 0 where
  low : T (finite l)
  high : T (finite h)
  order : l ≼ h

record Accepted (b : Bounds3f) (n : ℕ) : Type 0 where
  some : 0 < n
  few : n ≤ max_parts
  x : Axis b.p_min.x b.p_max.x
  y : Axis b.p_min.y b.p_max.y
  z : Axis b.p_min.z b.p_max.z

cut-accepted : (b : Bounds3f) (n : ℕ) → cut_refusal b n ≡ 0 → Accepted b n
unfolding cut_refusal
cut-accepted b n = go (eqb n 0) (ltb max_parts n) (eqb-false n 0) (ltb-false max_parts n)
  where
    go : (s t : Bool) → (s ≡ false → n ≡ 0 → ⊥) → (t ≡ false → n ≤ max_parts) → cond (s || t) 14 (Bounds3f-refusal b) ≡ 0 → Accepted b n
    go true t f g e = absurd (omega (arith, e))
    go false true f g e = absurd (omega (arith, e))
    go false false f g e =
        let (F, x, y, z) = refusal-accepted b e in
        let L = low-finite b F in
        let H = high-finite b F in
        let off = f refl in
        record {
          some = omega (arith, off);
          few = g refl;
          x = record { low = L.x; high = H.x; order = x };
          y = record { low = L.y; high = H.y; order = y };
          z = record { low = L.z; high = H.z; order = z };
        }

pub parts-counted : (b : Bounds3f) (n : ℕ) → cut_refusal b n ≡ 0 → (0 < n) × (n ≤ max_parts)
parts-counted b n e = let a = cut-accepted b n e in (a.some, a.few)

-- ---- one axis
-- From l' to h', in order and from l to h.
record Piece (l h l' h' : Float) : Type 0 where
  low : l ≼ l'
  order : l' ≼ h'
  high : h' ≼ h

whole-piece : {l h : Float} → Axis l h → Piece l h l h
whole-piece {l} {h} a = record { low = ≼_refl l (finite_number l a.low); order = a.order; high = ≼_refl h (finite_number h a.high) }

face-piece : {l h : Float} → Axis l h → T (fits binary32 l) → (n i : ℕ) → n ≤ max_parts → i < n → Piece l h (face l h n i) (face l h n (suc i))
face-piece {l} {h} a B n i few m = record {
  low = face-low l h a.low a.high a.order n B few i (omega (arith, m));
  order = face-rises l h a.low a.high a.order n B few i m;
  high = face-high l h a.low a.high a.order n (suc i);
}

-- ---- a box by its axes
or_cases : (a b : Bool) → T (a || b) → T a ⊎ T b
or_cases true b h = inl tt
or_cases false b h = inr h

not-less : (a b : ℕ) → b ≤ a → T (not (ltb a b))
not-less a b h = go (ltb a b) (ltb→lt a b)
  where
    go : (t : Bool) → (T t → a < b) → T (not t)
    go true f = let l = f tt in absurd (omega (arith, h, l))
    go false f = tt

-- Of a value that is at most another the other is not below.
not-below : (s t : Bool) (a b : ℕ) → T (below s a t b || level s a t b) → T (not (below t b s a))
not-below false false a b h = elim (or_cases (ltb a b) (eqb a b && true) h) [
  | inl u ↦ let l = ltb→lt a b u in not-less b a (omega (arith, l))
  | inr u ↦ let e = eqb→eq a b (and_l (eqb a b) true u) in not-less b a (omega (arith, e))
]
not-below false true a b h =
    let e = eqb→eq a b (and_l (eqb a b) (eqb a 0) h) in
    let z = eqb→eq a 0 (and_r (eqb a b) (eqb a 0) h) in
    not-less 0 (b + a) (omega (arith, e, z))
not-below true false a b h = tt
not-below true true a b h = elim (or_cases (ltb b a) (eqb a b && true) h) [
  | inl u ↦ let l = ltb→lt b a u in not-less a b (omega (arith, l))
  | inr u ↦ let e = eqb→eq a b (and_l (eqb a b) true u) in not-less a b (omega (arith, e))
]

not-above : {l h : Float} → T (finite l) → T (finite h) → l ≼ h → T (not (lt h l))
not-above {l} {h} L H o = go l h L H o.holds
  where
    go : (l h : Float) → T (finite l) → T (finite h) → T (le l h) → T (not (lt h l))
    go nan h L H i = absurd L
    go (inf s) h L H i = absurd L
    go (fin s m e) nan L H i = absurd H
    go (fin s m e) (inf t) L H i = absurd H
    go (fin s m e) (fin t n d) L H i = unfold lt le in not-below s t (m * up e * down d) (n * up d * down e) i

record Pieces (b p : Bounds3f) : Type 0 where
  x : Piece b.p_min.x b.p_max.x p.p_min.x p.p_max.x
  y : Piece b.p_min.y b.p_max.y p.p_min.y p.p_max.y
  z : Piece b.p_min.z b.p_max.z p.p_min.z p.p_max.z

pieces-subset : {b p : Bounds3f} → Pieces b p → Subset p b
pieces-subset q = record { x = (q.x.low, q.x.high); y = (q.y.low, q.y.high); z = (q.z.low, q.z.high) }

piece-low : {l h l' h' : Float} → Axis l h → Piece l h l' h' → T (finite l')
piece-low a q = between-finite a.low a.high q.low (≼_trans q.order q.high)

piece-high : {l h l' h' : Float} → Axis l h → Piece l h l' h' → T (finite h')
piece-high a q = between-finite a.low a.high (≼_trans q.low q.order) q.high

piece-order : {l h l' h' : Float} → Axis l h → Piece l h l' h' → T (not (lt h' l'))
piece-order a q = not-above (piece-low a q) (piece-high a q) q.order

none_above : (x y z : Bool) → T (not x) → T (not y) → T (not z) → T (not (x || y || z))
none_above true y z a b c = absurd a
none_above false true z a b c = absurd b
none_above false false true a b c = absurd c
none_above false false false a b c = tt

pieces-accepted : {b p : Bounds3f} {n : ℕ} → Accepted b n → Pieces b p → Bounds3f-refusal p ≡ 0
unfolding Bounds3f-refusal
pieces-accepted {b} {p} a q = rw (is_true (Bounds3f-is_finite p) finite-box, is_true (Bounds3f-is_ordered p) ordered)
  where
    finite-box : T (Bounds3f-is_finite p)
    finite-box =
        box-finite p
        (record { x = piece-low a.x q.x; y = piece-low a.y q.y; z = piece-low a.z q.z })
        (record { x = piece-high a.x q.x; y = piece-high a.y q.y; z = piece-high a.z q.z })

    ordered : T (Bounds3f-is_ordered p)
    ordered =
        unfold Bounds3f-is_ordered in none_above (lt p.p_max.x p.p_min.x) (lt p.p_max.y p.p_min.y) (lt p.p_max.z p.p_min.z)
        (piece-order a.x q.x) (piece-order a.y q.y) (piece-order a.z q.z)

-- ---- the statements
part-pieces : {b : Bounds3f} {n : ℕ} → LowFits b → Accepted b n → (i : ℕ) → i < n → Pieces b (Bounds3f-part b n i)
unfolding Bounds3f-part
part-pieces {b} {n} B a i m = go (longest_x b) (longest_y b)
  where
    l : Point3f
    l = b.p_min

    h : Point3f
    h = b.p_max

    go : (s t : Bool) → Pieces b (cond s (with_x b (face l.x h.x n i) (face l.x h.x n (suc i)))
        (cond t (with_y b (face l.y h.y n i) (face l.y h.y n (suc i))) (with_z b (face l.z h.z n i) (face l.z h.z n (suc i)))))
    go true t = record { x = face-piece a.x B.x n i a.few m; y = whole-piece a.y; z = whole-piece a.z }
    go false true = record { x = whole-piece a.x; y = face-piece a.y B.y n i a.few m; z = whole-piece a.z }
    go false false = record { x = whole-piece a.x; y = whole-piece a.y; z = face-piece a.z B.z n i a.few m }

part-within : (b : Bounds3f) (n i : ℕ) → LowFits b → cut_refusal b n ≡ 0 → i < n → PartWithin b (Bounds3f-part b n i)
part-within b n i B e m =
    let a = cut-accepted b n e in
    let q = part-pieces B a i m in
    record { subset = pieces-subset q; accepted = pieces-accepted a q }

record Found (b : Bounds3f) (n : ℕ) (p : Point3f) : Type 0 where
  place : ℕ
  among : place < n
  inside : Inside (Bounds3f-part b n place) p

module _ (b : Bounds3f) (n : ℕ) (p : Point3f) (a : Accepted b n) (i : Inside b p) where
  part-found : Found b n p
  part-found = go (longest_x b) (longest_y b) refl refl
    where
      l : Point3f
      l = b.p_min

      h : Point3f
      h = b.p_max

      go : (s t : Bool) → longest_x b ≡ s → longest_y b ≡ t → Found b n p
      go true t e f =
          let r = face-found l.x h.x a.x.low a.x.high a.x.order n a.some p.x i.x.0 i.x.1 in
          record { place = r.place; among = r.among; inside = unfold Bounds3f-part in rw e (record { x = (r.low, r.high); y = i.y; z = i.z }) }
      go false true e f =
          let r = face-found l.y h.y a.y.low a.y.high a.y.order n a.some p.y i.y.0 i.y.1 in
          record { place = r.place; among = r.among; inside = unfold Bounds3f-part in rw (e, f) (record { x = i.x; y = (r.low, r.high); z = i.z }) }
      go false false e f =
          let r = face-found l.z h.z a.z.low a.z.high a.z.order n a.some p.z i.z.0 i.z.1 in
          record { place = r.place; among = r.among; inside = unfold Bounds3f-part in rw (e, f) (record { x = i.x; y = i.y; z = (r.low, r.high) }) }

-- ---- what is left in the places
pub parts-length : (b : Bounds3f) (n k : ℕ) → length (Bounds3f-parts b n k) ≡ k
unfolding Bounds3f-parts
parts-length b n zero = refl
parts-length b n (suc k) =
    let e = length-append (Bounds3f-parts b n k) (Bounds3f-list (Bounds3f-part b n k) ∷ []) in
    let h = parts-length b n k in
    omega (arith, e, h)

parts_at : (b : Bounds3f) (n k i : ℕ) → i < k → get_or (Bounds3f-parts b n k) i [] ≡ Bounds3f-list (Bounds3f-part b n i)
unfolding Bounds3f-parts
parts_at b n zero i h = absurd (omega (arith, h))
parts_at b n (suc k) i h = go (eqb i k) (eqb-true i k) (eqb-false i k) (parts_at b n k i)
  where
    last : List (List Float)
    last = Bounds3f-list (Bounds3f-part b n k) ∷ []

    l : length (Bounds3f-parts b n k) ≡ k
    l = parts-length b n k

    go : (t : Bool) → (t ≡ true → i ≡ k) → (t ≡ false → i ≡ k → ⊥) → (i < k → get_or (Bounds3f-parts b n k) i [] ≡ Bounds3f-list (Bounds3f-part b n i))
        → get_or (Bounds3f-parts b n k ++ last) i [] ≡ Bounds3f-list (Bounds3f-part b n i)
    go true f g before = rw (f refl) (get_or_at (Bounds3f-parts b n k) (Bounds3f-list (Bounds3f-part b n k)) [] [] k l)
    go false f g before =
        let off = g refl in
        get_or-append (Bounds3f-parts b n k) last [] i (omega (arith, h, off, l)) ∙ before (omega (arith, h, off))

module _ (b : Bounds3f) (n : ℕ) (old : List (List Float)) (e : cut_refusal b n ≡ 0) (room : max_parts ≤ length old) where
  left_at : (i : ℕ) → i < n → Bounds3f-part b n i ≡ part_at (Bounds3f-cut b n old) i
  unfolding Bounds3f-cut
  left_at i h =
      let l = parts-length b n n in
      let (_, few) = parts-counted b n e in
      let at = front_at (Bounds3f-parts b n n) old [] i (omega (arith, h, l)) (omega (arith, h, few, room)) in
      rw (eq-eqb (cut_refusal b n) 0 e, at, parts_at b n n i h) refl

  pub parts_within : LowFits b → PartsWithin b n (Bounds3f-cut b n old)
  parts_within B i m = subst (PartWithin b) (left_at i m) (part-within b n i B e m)

  pub parts-cover : PartsCover b n (Bounds3f-cut b n old)
  parts-cover p i =
      let f = part-found b n p (cut-accepted b n e) i in
      record { place = f.place; among = f.among; inside = subst (λ (x : Bounds3f). Inside x p) (left_at f.place f.among) f.inside }
