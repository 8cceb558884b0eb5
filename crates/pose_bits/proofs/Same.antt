-- What the code that compares bits gives: the test of the definition, and where it is true one and the same float, `bits-clauses`, or pose: `all_same`
-- where every place agrees, `place-differs` where one does not.
use Prim.Native.Nat.{ℕ, zero, suc, ◌+◌, ◌<◌}
use mathlib.Core.Path.{◌≡◌, refl, sym, ap, subst, ◌∙◌}
use mathlib.Core.Bool.{Bool, true, false, ◌&&◌, false≢true}
use mathlib.Core.List.{List, [], ◌∷◌}
use native.Mathlib.Omega.{arith}
use borrow.Author.Tests.{eqb-true, eqb-false, eq-eqb}
use lib.Dec.{T, eqb}
use lib.ListN.{get_or}
use lib.Ieee.{Float, binary32, fits, nan, of_bits, to_bits}
use lib.Ieee.Bits.{of_bits-to_bits}
use Rattle.lent_arrays.specs.pose_pair.declared.Pose.{Pose}
use Rattle.lent_arrays.specs.Arrays.{Pose-of_list}
use Rattle.pose_bits.specs.Bits.{Float-same_bits, Row-same_bits, Matrix4x4-same_bits, Pose-same_bits}

-- ---- a test and what it tells
abbrev Tells : {A : Type 0} → Bool → Bool → A → A → Type 0
Tells r test x y = (r ≡ test) × (r ≡ true → x ≡ y)

true-T : {b : Bool} → b ≡ true → T b
true-T e = subst T (sym e) tt

same_bits : (x y : Float) → T (fits binary32 x) → T (fits binary32 y) → Float-same_bits x y ≡ true → x ≡ y
same_bits x y f g e =
    sym (of_bits-to_bits binary32 x f) ∙ ap (of_bits binary32) (eqb-true (to_bits binary32 x) (to_bits binary32 y) e) ∙ of_bits-to_bits binary32 y g

pub bits-clauses : (x y : Float) {a b : ℕ} → fits binary32 x ≡ true → fits binary32 y ≡ true → a ≡ to_bits binary32 x → b ≡ to_bits binary32 y
    → Tells (eqb a b) (Float-same_bits x y) x y
bits-clauses x y f g e k = (rw (e, k), λ t. same_bits x y (true-T f) (true-T g) (rw (e, k) at t))

-- ---- places
abbrev pub SameBelow : List Float → List Float → ℕ → Type 0
SameBelow a b n = (i : ℕ) → i < n → get_or a i nan ≡ get_or b i nan

-- a place below n + 1 is below n, or n
last-or-below : {A : Type 0} (i n : ℕ) → i < n + 1 → (i ≡ n → A) → (i < n → A) → A
last-or-below {A} i n h last below = go (eqb i n) (eqb-true i n) (eqb-false i n)
  where
    go : (t : Bool) → (t ≡ true → i ≡ n) → (t ≡ false → i ≡ n → ⊥) → A
    go true s d = last (s refl)
    go false s d = let f = d refl in below (omega (arith, h, f))

abbrev same_at : List Float → List Float → ℕ → Bool
same_at a b i = Float-same_bits (get_or a i nan) (get_or b i nan)

all_below : (ℕ → Bool) → ℕ → Bool
all_below test zero = true
all_below test (suc n) = test n && all_below test n

and-true : (p q : Bool) → (p && q) ≡ true → (p ≡ true) × (q ≡ true)
and-true true q e = (refl, e)
and-true false q e = absurd (false≢true e)

four-true : (p q r s : Bool) → (p && q && r && s) ≡ true → (p ≡ true) × (q ≡ true) × (r ≡ true) × (s ≡ true)
four-true p q r s e =
    let (pqr, es) = and-true (p && q && r) s e in
    let (pq, er) = and-true (p && q) r pqr in
    let (ep, eq) = and-true p q pq in
    (ep, eq, er, es)

below_true : (test : ℕ → Bool) (n i : ℕ) → i < n → all_below test n ≡ true → test i ≡ true
unfolding all_below
below_true test zero i h e = absurd (omega (arith, h))
below_true test (suc n) i h e =
    let (last, below) = and-true (test n) (all_below test n) e in
    last-or-below i n (omega (arith, h)) (λ s. rw s last) (λ k. below_true test n i k below)

-- ---- two poses
own_bits : (p : Pose) → true ≡ Pose-same_bits p p
unfolding Pose-same_bits Matrix4x4-same_bits Row-same_bits
own_bits p = search (eq-eqb)

module _ (a b : List Float) where
  every-place : Pose-same_bits (Pose-of_list a) (Pose-of_list b) ≡ true → all_below (same_at a b) 18 ≡ true
  unfolding Pose-same_bits Matrix4x4-same_bits Row-same_bits all_below
  every-place e =
      let s = same_at a b in
      let r0 = s 1 && s 2 && s 3 && s 4 in
      let r1 = s 5 && s 6 && s 7 && s 8 in
      let r2 = s 9 && s 10 && s 11 && s 12 in
      let r3 = s 13 && s 14 && s 15 && s 16 in
      let (tm, e17) = and-true (s 0 && (r0 && r1 && r2 && r3)) (s 17) e in
      let (e0, m) = and-true (s 0) (r0 && r1 && r2 && r3) tm in
      let (t0, t1, t2, t3) = four-true r0 r1 r2 r3 m in
      let (e1, e2, e3, e4) = four-true (s 1) (s 2) (s 3) (s 4) t0 in
      let (e5, e6, e7, e8) = four-true (s 5) (s 6) (s 7) (s 8) t1 in
      let (e9, e10, e11, e12) = four-true (s 9) (s 10) (s 11) (s 12) t2 in
      let (e13, e14, e15, e16) = four-true (s 13) (s 14) (s 15) (s 16) t3 in
      rw (e0, e1, e2, e3, e4, e5, e6, e7, e8, e9, e10, e11, e12, e13, e14, e15, e16, e17)

  abbrev SamePose : Bool → Type 0
  SamePose r = Tells r (Pose-same_bits (Pose-of_list a) (Pose-of_list b)) (Pose-of_list a) (Pose-of_list b)

  pub place-differs : (i : ℕ) {r : Bool} → i < 18 → r ≡ same_at a b i → r ≡ false → SamePose false
  place-differs i h e f = (go (Pose-same_bits (Pose-of_list a) (Pose-of_list b)) every-place, λ t. absurd (false≢true t))
    where
      go : (t : Bool) → (t ≡ true → all_below (same_at a b) 18 ≡ true) → false ≡ t
      go true s = sym f ∙ e ∙ below_true (same_at a b) 18 i h (s refl)
      go false s = refl

  pub all_same : SameBelow a b 18 → SamePose true
  all_same h =
      let same : Pose-of_list a ≡ Pose-of_list b =
      λ i. record {
        time = h 0 (omega arith) i;
        m = record {
          r0 = h 1 (omega arith) i ∷ h 2 (omega arith) i ∷ h 3 (omega arith) i ∷ h 4 (omega arith) i ∷ [];
          r1 = h 5 (omega arith) i ∷ h 6 (omega arith) i ∷ h 7 (omega arith) i ∷ h 8 (omega arith) i ∷ [];
          r2 = h 9 (omega arith) i ∷ h 10 (omega arith) i ∷ h 11 (omega arith) i ∷ h 12 (omega arith) i ∷ [];
          r3 = h 13 (omega arith) i ∷ h 14 (omega arith) i ∷ h 15 (omega arith) i ∷ h 16 (omega arith) i ∷ [];
        };
        pad = h 17 (omega arith) i;
      } in
      (rw (← same) (own_bits (Pose-of_list a)), λ _. same)
