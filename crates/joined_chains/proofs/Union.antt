-- Unions are associative to the bit, for all floats: `union_assoc`. So the union of two lists of answers, one behind the other, is the union of the two unions:
-- `union-all-append`. Rests on the least and the greatest of two, each the first of those that no other is strictly beyond: `min_assoc`, `max_assoc`.
use Prim.Native.Nat.{ℕ, ◌+◌, ◌*◌, ◌<◌}
use mathlib.Core.Path.{◌≡◌, refl, sym, ap, ◌∙◌}
use mathlib.Core.Bool.{Bool, true, false, not, ◌||◌, ◌&&◌, cond}
use mathlib.Core.List.{List, [], ◌∷◌, ◌++◌}
use native.Mathlib.Omega.{arith}
use borrow.Author.Tests.{le-ltb}
use lib.Dec.{T, eqb, ltb, ltb→lt, eqb→eq}
use lib.Ieee.{Float, nan, inf, fin, up, down, below, level, lt, le, is_nan}
use lib.Ieee.Fits.{and_l, and_r}
use Rattle.built_poses.proofs.bounds_answers.UnionAll.{union-append}
use Rattle.pose_bits.specs.rounding.Order.{◌≼◌, Number}
use Rattle.pose_bits.proofs.rounding.Order.{≼_trans, lt-≼, not-lt-≼}
use Rattle.pose_bits.specs.float32.MinMax.{min_num, max_num}
use Rattle.pose_bits.specs.bounds3.declared.Point3f.{Point3f}
use Rattle.pose_bits.specs.bounds3.declared.Bounds3f.{Bounds3f}
use Rattle.pose_bits.specs.bounds3.Point3f.{Point3f-min, Point3f-max}
use Rattle.pose_bits.specs.bounds3.Bounds3f.{Bounds3f-union_bounds}
use Rattle.pose_bits.specs.transform.declared.BoundsAnswer.{BoundsAnswer}
use Rattle.pose_bits.specs.transform.declared.BoundsAnswer.TheVariants.{Bounds, Refused}
use Rattle.built_poses.specs.bounds_query.Query.{BoundsAnswer-union_bounds}
use Rattle.built_poses.specs.bounds_answers.UnionAll.{BoundsAnswer-union_all}

-- ---- what is at most another is not strictly beyond it
either : (a b : ℕ) (x y : Bool) → (T x → a < b) → (T y → a ≡ b) → T (x || y && true) → ltb b a ≡ false
either a b true y f g h = let l = f tt in le-ltb b a (omega (arith, l))
either a b false true f g h = let e = g tt in le-ltb b a (omega (arith, e))
either a b false false f g h = absurd h

signed_at_most : (s t : Bool) (a b : ℕ) → T (below s a t b || level s a t b) → below t b s a ≡ false
signed_at_most false false a b h = either a b (ltb a b) (eqb a b) (ltb→lt a b) (eqb→eq a b) h
signed_at_most false true a b h =
    let e = eqb→eq a b (and_l (eqb a b) (eqb a 0) h) in
    let z = eqb→eq a 0 (and_r (eqb a b) (eqb a 0) h) in
    le-ltb 0 (b + a) (omega (arith, e, z))
signed_at_most true false a b h = refl
signed_at_most true true a b h = either b a (ltb b a) (eqb a b) (ltb→lt b a) (λ k. sym (eqb→eq a b k)) h

le_not_lt : (x y : Float) → T (le x y) → lt y x ≡ false
unfolding le
le_not_lt nan y h = absurd h
le_not_lt (inf s) nan h = absurd h
le_not_lt (inf true) (inf true) h = refl
le_not_lt (inf true) (inf false) h = refl
le_not_lt (inf false) (inf true) h = absurd h
le_not_lt (inf false) (inf false) h = refl
le_not_lt (inf true) (fin t n d) h = refl
le_not_lt (inf false) (fin t n d) h = absurd h
le_not_lt (fin s m e) nan h = absurd h
le_not_lt (fin s m e) (inf true) h = absurd h
le_not_lt (fin s m e) (inf false) h = refl
le_not_lt (fin s m e) (fin t n d) h = signed_at_most s t (m * up e * down d) (n * up d * down e) h

-- ---- a test `beyond` that is a strict order of the numbers: the first of three that no other is beyond, taken from the left or from the right
record Strict (beyond : Float → Float → Bool) : Type 0 where
  trans : (x y z : Float) → Number x → Number z → T (beyond y x) → T (beyond z y) → beyond z x ≡ true
  not-trans : (x y z : Float) → Number x → Number y → Number z → T (not (beyond y x)) → T (not (beyond z y)) → beyond z x ≡ false
  nan-none : (x y : Float) → T (is_nan y) → beyond y x ≡ false

module _ (beyond : Float → Float → Bool) (strict : Strict beyond) where
  abbrev pick : Float → Float → Float
  pick x y = cond (is_nan x) y (cond (beyond y x) y x)

  nan-first : (x y : Float) → is_nan x ≡ true → pick x y ≡ y
  nan-first x y e = rw e

  nan-second : (x y : Float) → is_nan x ≡ false → is_nan y ≡ true → pick x y ≡ x
  nan-second x y e f = rw (e, strict.nan-none x y (rw f tt))

  other : (x y : Float) → is_nan x ≡ false → beyond y x ≡ true → pick x y ≡ y
  other x y e f = rw (e, f)

  own : (x y : Float) → is_nan x ≡ false → beyond y x ≡ false → pick x y ≡ x
  own x y e f = rw (e, f)

  numbers : (x y z : Float) → is_nan x ≡ false → is_nan y ≡ false → is_nan z ≡ false → pick (pick x y) z ≡ pick x (pick y z)
  numbers x y z nx ny nz = go (beyond y x) (beyond z y) refl refl
    where
      go : (b c : Bool) → beyond y x ≡ b → beyond z y ≡ c → pick (pick x y) z ≡ pick x (pick y z)
      go true true e f =
          let g = strict.trans x y z (rw nx tt) (rw nz tt) (rw e tt) (rw f tt) in
          ap (λ (v : Float). pick v z) (other x y nx e) ∙ other y z ny f ∙ sym (ap (pick x) (other y z ny f) ∙ other x z nx g)
      go true false e f =
          ap (λ (v : Float). pick v z) (other x y nx e) ∙ own y z ny f ∙ sym (ap (pick x) (own y z ny f) ∙ other x y nx e)
      go false true e f = ap (λ (v : Float). pick v z) (own x y nx e) ∙ sym (ap (pick x) (other y z ny f))
      go false false e f =
          let g = strict.not-trans x y z (rw nx tt) (rw ny tt) (rw nz tt) (rw e tt) (rw f tt) in
          ap (λ (v : Float). pick v z) (own x y nx e) ∙ own x z nx g ∙ sym (ap (pick x) (own y z ny f) ∙ own x y nx e)

  picked : (x y : Float) → is_nan x ≡ false → is_nan y ≡ false → is_nan (pick x y) ≡ false
  picked x y e f = rw e (chosen (beyond y x))
    where
      chosen : (b : Bool) → is_nan (cond b y x) ≡ false
      chosen true = f
      chosen false = e

  pick_assoc : (x y z : Float) → pick (pick x y) z ≡ pick x (pick y z)
  pick_assoc x y z = go (is_nan x) (is_nan y) (is_nan z) refl refl refl
    where
      go : (a b c : Bool) → is_nan x ≡ a → is_nan y ≡ b → is_nan z ≡ c → pick (pick x y) z ≡ pick x (pick y z)
      go true b c e f g = ap (λ (v : Float). pick v z) (nan-first x y e) ∙ sym (nan-first x (pick y z) e)
      go false true c e f g = ap (λ (v : Float). pick v z) (nan-second x y e f) ∙ sym (ap (pick x) (nan-first y z f))
      go false false true e f g = nan-second (pick x y) z (picked x y e f) g ∙ sym (ap (pick x) (nan-second y z f g))
      go false false false e f g = numbers x y z e f g

-- ---- the least and the greatest of two
below-strict : Strict lt
below-strict = record {
  trans = λ x y z nx nz h k. strict-trans x y z nx nz h k;
  not-trans = λ x y z nx ny nz h k. le_not_lt x z (≼_trans (not-lt-≼ x y nx ny h) (not-lt-≼ y z ny nz k)).holds;
  nan-none = λ x y n. nan-below x y n;
}
  where
    nan-below : (x y : Float) → T (is_nan y) → lt y x ≡ false
    nan-below x nan n = unfold lt in refl
    nan-below x (inf s) n = unfold is_nan in absurd n
    nan-below x (fin s m e) n = unfold is_nan in absurd n

    strict-trans : (x y z : Float) → Number x → Number z → T (lt y x) → T (lt z y) → lt z x ≡ true
    strict-trans x y z nx nz h k = go (lt z x) (not-lt-≼ x z nx nz)
      where
        go : (b : Bool) → (T (not b) → x ≼ z) → b ≡ true
        go true f = refl
        go false f = absurd (rw (le_not_lt x y (≼_trans (f tt) (lt-≼ z y k)).holds) at h)

above-strict : Strict (λ x y. lt y x)
above-strict = record {
  trans = λ x y z nx nz h k. below-strict.trans z y x nz nx k h;
  not-trans = λ x y z nx ny nz h k. le_not_lt z x (≼_trans (not-lt-≼ z y nz ny k) (not-lt-≼ y x ny nx h)).holds;
  nan-none = λ x y n. below_nan x y n;
}
  where
    below_nan : (x y : Float) → T (is_nan y) → lt x y ≡ false
    below_nan nan nan n = unfold lt in refl
    below_nan (inf s) nan n = unfold lt in refl
    below_nan (fin s m e) nan n = unfold lt in refl
    below_nan x (inf s) n = unfold is_nan in absurd n
    below_nan x (fin s m e) n = unfold is_nan in absurd n

pub min_assoc : (x y z : Float) → min_num (min_num x y) z ≡ min_num x (min_num y z)
unfolding min_num
min_assoc = pick_assoc lt below-strict

pub max_assoc : (x y z : Float) → max_num (max_num x y) z ≡ max_num x (max_num y z)
unfolding max_num
max_assoc = pick_assoc (λ x y. lt y x) above-strict

-- ---- boxes and answers
box-assoc : (a b c : Bounds3f) → Bounds3f-union_bounds (Bounds3f-union_bounds a b) c ≡ Bounds3f-union_bounds a (Bounds3f-union_bounds b c)
unfolding Bounds3f-union_bounds Point3f-min Point3f-max
box-assoc a b c =
    let l = a.p_min in
    let m = b.p_min in
    let n = c.p_min in
    let u = a.p_max in
    let v = b.p_max in
    let w = c.p_max in
    rw (
      min_assoc l.x m.x n.x,
      min_assoc l.y m.y n.y,
      min_assoc l.z m.z n.z,
      max_assoc u.x v.x w.x,
      max_assoc u.y v.y w.y,
      max_assoc u.z v.z w.z,
    )

pub union_assoc : (r s t : BoundsAnswer)
    → BoundsAnswer-union_bounds (BoundsAnswer-union_bounds r s) t ≡ BoundsAnswer-union_bounds r (BoundsAnswer-union_bounds s t)
unfolding BoundsAnswer-union_bounds
union_assoc (Bounds a) (Bounds b) (Bounds c) = ap Bounds (box-assoc a b c)
union_assoc (Bounds a) (Bounds b) (Refused n) = refl
union_assoc (Bounds a) (Refused n) t = refl
union_assoc (Refused n) s t = refl

union-all-from : (r s : BoundsAnswer) (answers : List BoundsAnswer)
    → BoundsAnswer-union_all (BoundsAnswer-union_bounds r s) answers ≡ BoundsAnswer-union_bounds r (BoundsAnswer-union_all s answers)
union-all-from r s [] = refl
union-all-from r s (t ∷ answers) =
    ap (λ (u : BoundsAnswer). BoundsAnswer-union_all u answers) (union_assoc r s t) ∙ union-all-from r (BoundsAnswer-union_bounds s t) answers

pub union-all-append : (r s : BoundsAnswer) (answers others : List BoundsAnswer)
    → BoundsAnswer-union_all r (answers ++ s ∷ others) ≡ BoundsAnswer-union_bounds (BoundsAnswer-union_all r answers) (BoundsAnswer-union_all s others)
union-all-append r s answers others = union-append r answers (s ∷ others) ∙ union-all-from (BoundsAnswer-union_all r answers) s others
