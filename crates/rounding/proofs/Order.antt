-- `≼` is a total preorder of the floats that are no NaN, with equal zeros: `≼_refl`, `≼_trans`, `≼-total`, `zeros_equal`; what lies between finite
-- values is finite (`between-finite`), the negative turns the order round (`neg-antitone`), no number is above infinity (`below-infinity`), and the tests
-- `lt` and `le` decide it (`lt-≼`, `not-lt-≼`).
-- For finite values all rests on the order of fractions (Rational.antt): `to-fraction`, `of-fraction`.
use mathlib.Core.Path.{◌≡◌, refl, sym, ap}
use mathlib.Core.Logic.{◌⊎◌, inl, inr}
use Prim.Native.Nat.{ℕ, ◌+◌, ◌-◌, ◌*◌, ◌≤◌}
use native.Mathlib.Nat.{eq-or-lt_of_le, eq-zero-or-pos}
use native.Mathlib.Omega.{arith}
use mathlib.Core.Bool.{Bool, true, false, not, ◌&&◌, ◌||◌}
use lib.IntN.{ℤ, pos}
use lib.Dec.{T, ltb, eqb, eqb→eq, ltb→lt, nltb→le, lt→ltb, eqb_refl}
use lib.Ieee.{Float, nan, inf, fin, binary32, up, down, below, level, lt, eq, le, ne, neg, is_nan, of_bits}
use lib.Ieee.Fits.{down_pos, eq→eqb, and_i, and_l, and_r}
use lib.Ieee.Bits.{is_true}
use lib.Ieee.Scale.{finite}
use lib.Ieee.Positive.{den, positive, positive-finite, above, above_of_le}
use Rattle.rounding.specs.Order.{◌≼◌, Number}
use Rattle.rounding.proofs.Rational.{pos_part, neg_part, pos_part-mul, neg_part-mul, num_pos, num_neg, num_neg-zero, FractionLe, fraction-trans}

-- ---- the tests of lib.Ieee as inequalities of signed magnitudes
or_split : (a b : Bool) → T (a || b) → T a ⊎ T b
or_split true b t = inl tt
or_split false b t = inr t

pub or_left : (a b : Bool) → T a → T (a || b)
or_left true b t = tt
or_left false b t = absurd t

pub or_right : (a b : Bool) → T b → T (a || b)
or_right true b t = tt
or_right false b t = t

-- ±a ≤ ±b, s and t being the signs.
abbrev SignedLe : Bool → ℕ → Bool → ℕ → Type 0
SignedLe s a t b = pos_part s a + neg_part t b ≤ pos_part t b + neg_part s a

signed-test→ : (s t : Bool) (a b : ℕ) → T (below s a t b || level s a t b) → SignedLe s a t b
signed-test→ false false a b h = elim (or_split (ltb a b) (eqb a b && true) h) [
  | inl u ↦ omega (arith, ltb→lt a b u)
  | inr u ↦ omega (arith, eqb→eq a b (and_l (eqb a b) true u))
]
signed-test→ false true a b h = omega (arith, eqb→eq a b (and_l (eqb a b) (eqb a 0) h), eqb→eq a 0 (and_r (eqb a b) (eqb a 0) h))
signed-test→ true false a b h = omega arith
signed-test→ true true a b h = elim (or_split (ltb b a) (eqb a b && true) h) [
  | inl u ↦ omega (arith, ltb→lt b a u)
  | inr u ↦ omega (arith, eqb→eq a b (and_l (eqb a b) true u))
]

→signed-test : (s t : Bool) (a b : ℕ) → SignedLe s a t b → T (below s a t b || level s a t b)
→signed-test false false a b h =
    let k : a ≤ b = omega arith in
    elim (eq-or-lt_of_le k) [
      | inl e ↦ or_right (ltb a b) (eqb a b && true) (and_i (eqb a b) true (eq→eqb e) tt)
      | inr l ↦ or_left (ltb a b) (eqb a b && true) (lt→ltb a b l)
    ]
→signed-test false true a b h =
    let e : a ≡ b = omega arith in
    let z : a ≡ 0 = omega arith in
    and_i (eqb a b) (eqb a 0) (eq→eqb e) (eq→eqb z)
→signed-test true false a b h =
    elim (eq-zero-or-pos (a + b)) [
      | inl e ↦
          let p : a ≡ b = omega arith in
          let z : a ≡ 0 = omega arith in
          or_right (ltb 0 (a + b)) (eqb a b && eqb a 0) (and_i (eqb a b) (eqb a 0) (eq→eqb p) (eq→eqb z))
      | inr l ↦ or_left (ltb 0 (a + b)) (eqb a b && eqb a 0) (lt→ltb 0 (a + b) l)
    ]
→signed-test true true a b h =
    let k : b ≤ a = omega arith in
    elim (eq-or-lt_of_le k) [
      | inl e ↦ or_right (ltb b a) (eqb a b && true) (and_i (eqb a b) true (eq→eqb (sym e)) tt)
      | inr l ↦ or_left (ltb b a) (eqb a b && true) (lt→ltb b a l)
    ]

-- ---- the order as a type: of two finite values, that of the fractions
abbrev Le : Float → Float → Type 0
Le nan y = ⊥
Le (inf s) nan = ⊥
Le (inf s) (inf t) = T (s || not t)
Le (inf s) (fin t n d) = T s
Le (fin s m e) nan = ⊥
Le (fin s m e) (inf t) = T (not t)
Le (fin s m e) (fin t n d) = FractionLe (pos_part s (m * up e)) (neg_part s (m * up e)) (down e) (pos_part t (n * up d)) (neg_part t (n * up d)) (down d)

le→Le : (x y : Float) → T (le x y) → Le x y
unfolding le
le→Le nan y h = absurd h
le→Le (inf s) nan h = absurd h
le→Le (inf true) (inf t) h = tt
le→Le (inf false) (inf true) h = absurd h
le→Le (inf false) (inf false) h = tt
le→Le (inf true) (fin t n d) h = tt
le→Le (inf false) (fin t n d) h = absurd h
le→Le (fin s m e) nan h = absurd h
le→Le (fin s m e) (inf true) h = absurd h
le→Le (fin s m e) (inf false) h = tt
le→Le (fin s m e) (fin t n d) h =
    rw (pos_part-mul s (m * up e) (down d), neg_part-mul s (m * up e) (down d), pos_part-mul t (n * up d) (down e), neg_part-mul t (n * up d) (down e))
    at (signed-test→ s t (m * up e * down d) (n * up d * down e) h)

Le→le : (x y : Float) → Le x y → T (le x y)
unfolding le
Le→le nan y h = absurd h
Le→le (inf s) nan h = absurd h
Le→le (inf true) (inf true) h = tt
Le→le (inf true) (inf false) h = tt
Le→le (inf false) (inf true) h = absurd h
Le→le (inf false) (inf false) h = tt
Le→le (inf true) (fin t n d) h = tt
Le→le (inf false) (fin t n d) h = absurd h
Le→le (fin s m e) nan h = absurd h
Le→le (fin s m e) (inf true) h = absurd h
Le→le (fin s m e) (inf false) h = tt
Le→le (fin s m e) (fin t n d) h =
    →signed-test s t (m * up e * down d) (n * up d * down e)
    (rw (pos_part-mul s (m * up e) (down d), neg_part-mul s (m * up e) (down d), pos_part-mul t (n * up d) (down e), neg_part-mul t (n * up d) (down e)) h)

of-Le : {x y : Float} → Le x y → x ≼ y
of-Le {x} {y} h = record { holds = Le→le x y h }

to-Le : {x y : Float} → x ≼ y → Le x y
to-Le {x} {y} h = le→Le x y h.holds

-- ---- a total preorder
Le-trans : (x y z : Float) → Le x y → Le y z → Le x z
Le-trans nan y z h k = absurd h
Le-trans (inf s) nan z h k = absurd h
Le-trans (inf s) (inf t) nan h k = absurd k
Le-trans (inf true) (inf t) (inf u) h k = tt
Le-trans (inf false) (inf true) (inf u) h k = absurd h
Le-trans (inf false) (inf false) (inf u) h k = k
Le-trans (inf true) (inf t) (fin u l g) h k = tt
Le-trans (inf false) (inf true) (fin u l g) h k = absurd h
Le-trans (inf false) (inf false) (fin u l g) h k = absurd k
Le-trans (inf s) (fin t n d) nan h k = absurd k
Le-trans (inf true) (fin t n d) (inf u) h k = tt
Le-trans (inf false) (fin t n d) (inf u) h k = absurd h
Le-trans (inf true) (fin t n d) (fin u l g) h k = tt
Le-trans (inf false) (fin t n d) (fin u l g) h k = absurd h
Le-trans (fin s m e) nan z h k = absurd h
Le-trans (fin s m e) (inf t) nan h k = absurd k
Le-trans (fin s m e) (inf true) (inf u) h k = absurd h
Le-trans (fin s m e) (inf false) (inf u) h k = k
Le-trans (fin s m e) (inf true) (fin u l g) h k = absurd h
Le-trans (fin s m e) (inf false) (fin u l g) h k = absurd k
Le-trans (fin s m e) (fin t n d) nan h k = absurd k
Le-trans (fin s m e) (fin t n d) (inf u) h k = k
Le-trans (fin s m e) (fin t n d) (fin u l g) h k =
    fraction-trans (pos_part s (m * up e)) (neg_part s (m * up e)) (down e) (pos_part t (n * up d))
    (neg_part t (n * up d)) (down d) (pos_part u (l * up g)) (neg_part u (l * up g)) (down g) (down_pos d) h k

pub ≼_trans : {x y z : Float} → x ≼ y → y ≼ z → x ≼ z
≼_trans {x} {y} {z} h k = of-Le (Le-trans x y z (to-Le h) (to-Le k))

Le-refl : (x : Float) → Number x → Le x x
unfolding is_nan
Le-refl nan n = n
Le-refl (inf true) n = tt
Le-refl (inf false) n = tt
Le-refl (fin s m e) n = omega arith

pub ≼_refl : (x : Float) → Number x → x ≼ x
≼_refl x n = of-Le (Le-refl x n)

nat-total : (a b : ℕ) → (a ≤ b) ⊎ (b ≤ a)
nat-total a b = elim (eq-zero-or-pos (a - b)) [ inl e ↦ inl (omega arith) | inr l ↦ inr (omega arith) ]

Le-total : (x y : Float) → Number x → Number y → (Le x y) ⊎ (Le y x)
unfolding is_nan
Le-total nan y n m = absurd n
Le-total (inf s) nan n m = absurd m
Le-total (inf true) (inf t) n m = inl tt
Le-total (inf false) (inf true) n m = inr tt
Le-total (inf false) (inf false) n m = inr tt
Le-total (inf true) (fin t k d) n m = inl tt
Le-total (inf false) (fin t k d) n m = inr tt
Le-total (fin s l e) nan n m = absurd m
Le-total (fin s l e) (inf true) n m = inr tt
Le-total (fin s l e) (inf false) n m = inl tt
Le-total (fin s l e) (fin t k d) n m =
    elim (nat-total (pos_part s (l * up e) * down d + neg_part t (k * up d) * down e) (pos_part t (k * up d) * down e + neg_part s (l * up e) * down d)) [
      | inl h ↦ inl h
      | inr h ↦ inr (omega arith)
    ]

pub ≼-total : (x y : Float) → Number x → Number y → (x ≼ y) ⊎ (y ≼ x)
≼-total x y n m = elim (Le-total x y n m) [ inl h ↦ inl (of-Le h) | inr h ↦ inr (of-Le h) ]

pub zeros_equal : (s t : Bool) (e d : ℤ) → fin s 0 e ≼ fin t 0 d
zeros_equal s t e d = of-Le (go s t)
  where
    go : (s t : Bool) → Le (fin s 0 e) (fin t 0 d)
    go true true = omega arith
    go true false = omega arith
    go false true = omega arith
    go false false = omega arith

-- ---- what is compared is no NaN, and what lies between finite values is finite
pub number-left : {x y : Float} → x ≼ y → Number x
number-left {x} {y} h = go x y (to-Le h)
  where
    go : (x y : Float) → Le x y → Number x
    go nan y h = absurd h
    go (inf s) y h = unfold is_nan in tt
    go (fin s m e) y h = unfold is_nan in tt

pub number-right : {x y : Float} → x ≼ y → Number y
number-right {x} {y} h = go x y (to-Le h)
  where
    go : (x y : Float) → Le x y → Number y
    go nan y h = absurd h
    go (inf s) nan h = absurd h
    go (inf s) (inf t) h = unfold is_nan in tt
    go (inf s) (fin t n d) h = unfold is_nan in tt
    go (fin s m e) nan h = absurd h
    go (fin s m e) (inf t) h = unfold is_nan in tt
    go (fin s m e) (fin t n d) h = unfold is_nan in tt

pub finite_number : (x : Float) → T (finite x) → Number x
unfolding is_nan
finite_number nan f = f
finite_number (inf s) f = tt
finite_number (fin s m e) f = tt

pub between-finite : {lo x hi : Float} → T (finite lo) → T (finite hi) → lo ≼ x → x ≼ hi → T (finite x)
between-finite {lo} {x} {hi} l r h k = go lo x hi l r (to-Le h) (to-Le k)
  where
    go : (lo x hi : Float) → T (finite lo) → T (finite hi) → Le lo x → Le x hi → T (finite x)
    go nan x hi l r h k = absurd l
    go (inf s) x hi l r h k = absurd l
    go (fin s m e) nan hi l r h k = h
    go (fin s m e) (inf true) hi l r h k = h
    go (fin s m e) (inf false) nan l r h k = r
    go (fin s m e) (inf false) (inf u) l r h k = r
    go (fin s m e) (inf false) (fin u i j) l r h k = k
    go (fin s m e) (fin t n d) hi l r h k = tt

-- What is finite and no less than a positive value is positive.
pub above-positive : {lo x : Float} → T (positive lo) → T (finite x) → lo ≼ x → T (positive x)
above-positive {lo} {x} p q h = go x q (above_of_le lo x p h.holds)
  where
    go : (x : Float) → T (finite x) → T (above x) → T (positive x)
    go nan q a = a
    go (inf s) q a = absurd q
    go (fin true m e) q a = a
    go (fin false m e) q a = a

-- ---- the order of finite values is that of the fractions
pub to-fraction : {x y : Float} → T (finite x) → T (finite y) → x ≼ y → FractionLe (num_pos x) (num_neg x) (den x) (num_pos y) (num_neg y) (den y)
to-fraction {x} {y} f g h = go x y f g (to-Le h)
  where
    go : (x y : Float) → T (finite x) → T (finite y) → Le x y → FractionLe (num_pos x) (num_neg x) (den x) (num_pos y) (num_neg y) (den y)
    go nan y f g h = absurd f
    go (inf s) y f g h = absurd f
    go (fin s m e) nan f g h = absurd g
    go (fin s m e) (inf t) f g h = absurd g
    go (fin s m e) (fin t n d) f g h = h

pub of-fraction : {x y : Float} → T (finite x) → T (finite y) → FractionLe (num_pos x) (num_neg x) (den x) (num_pos y) (num_neg y) (den y) → x ≼ y
of-fraction {x} {y} f g h = of-Le (go x y f g h)
  where
    go : (x y : Float) → T (finite x) → T (finite y) → FractionLe (num_pos x) (num_neg x) (den x) (num_pos y) (num_neg y) (den y) → Le x y
    go nan y f g h = absurd f
    go (inf s) y f g h = absurd f
    go (fin s m e) nan f g h = absurd g
    go (fin s m e) (inf t) f g h = absurd g
    go (fin s m e) (fin t n d) f g h = h

pub num_neg-none : (x : Float) → T (finite x) → of_bits binary32 0 ≼ x → num_neg x ≡ 0
unfolding of_bits
num_neg-none x f h = let l = to-fraction {x = fin false 0 (pos 0)} {y = x} tt f h in go x l
  where
    go : (x : Float) → FractionLe 0 0 1 (num_pos x) (num_neg x) (den x) → num_neg x ≡ 0
    go nan l = refl
    go (inf s) l = refl
    go (fin true m e) l = omega arith
    go (fin false m e) l = refl

pub to-fraction-positive : {x y : Float} → T (positive x) → T (positive y) → x ≼ y → num_pos x * den y ≤ num_pos y * den x
to-fraction-positive {x} {y} p q h =
    let k = rw (num_neg-zero x p, num_neg-zero y q) at (to-fraction (positive-finite x p) (positive-finite y q) h) in
    omega arith

-- ---- the negative
Le-neg : (x y : Float) → Le x y → Le (neg y) (neg x)
unfolding neg
Le-neg nan y h = absurd h
Le-neg (inf s) nan h = absurd h
Le-neg (inf true) (inf true) h = tt
Le-neg (inf true) (inf false) h = tt
Le-neg (inf false) (inf true) h = absurd h
Le-neg (inf false) (inf false) h = tt
Le-neg (inf true) (fin t n d) h = tt
Le-neg (inf false) (fin t n d) h = absurd h
Le-neg (fin s m e) nan h = absurd h
Le-neg (fin s m e) (inf true) h = absurd h
Le-neg (fin s m e) (inf false) h = tt
Le-neg (fin true m e) (fin true n d) h = omega arith
Le-neg (fin true m e) (fin false n d) h = omega arith
Le-neg (fin false m e) (fin true n d) h = omega arith
Le-neg (fin false m e) (fin false n d) h = omega arith

pub neg-antitone : {x y : Float} → x ≼ y → neg y ≼ neg x
neg-antitone {x} {y} h = of-Le (Le-neg x y (to-Le h))

pub neg-neg : (x : Float) → neg (neg x) ≡ x
unfolding neg
neg-neg nan = refl
neg-neg (inf true) = refl
neg-neg (inf false) = refl
neg-neg (fin true m e) = refl
neg-neg (fin false m e) = refl

pub neg-finite : (x : Float) → T (finite x) → T (finite (neg x))
unfolding neg
neg-finite nan f = f
neg-finite (inf s) f = f
neg-finite (fin s m e) f = f

-- ---- the infinities
pub below-infinity : (x : Float) → Number x → x ≼ inf false
unfolding le is_nan
below-infinity nan n = absurd n
below-infinity (inf true) n = record { holds = tt }
below-infinity (inf false) n = record { holds = tt }
below-infinity (fin s m e) n = record { holds = tt }

-- ---- the tests that code makes
pub lt-≼ : (x y : Float) → T (lt x y) → x ≼ y
lt-≼ x y h = record { holds = unfold le in or_left (lt x y) (eq x y) h }

not-below : (s t : Bool) (a b : ℕ) → T (not (below t b s a)) → SignedLe s a t b
not-below false false a b h = omega (arith, nltb→le b a h)
not-below true false a b h = omega arith
not-below false true a b h = omega (arith, nltb→le 0 (b + a) h)
not-below true true a b h = omega (arith, nltb→le a b h)

not-lt-Le : (x y : Float) → Number x → Number y → T (not (lt y x)) → Le x y
unfolding lt is_nan
not-lt-Le nan y n m h = absurd n
not-lt-Le (inf s) nan n m h = absurd m
not-lt-Le (inf true) (inf t) n m h = tt
not-lt-Le (inf false) (inf true) n m h = h
not-lt-Le (inf false) (inf false) n m h = tt
not-lt-Le (inf true) (fin t i d) n m h = tt
not-lt-Le (inf false) (fin t i d) n m h = h
not-lt-Le (fin s l e) nan n m h = absurd m
not-lt-Le (fin s l e) (inf t) n m h = h
not-lt-Le (fin s l e) (fin t i d) n m h =
    rw (pos_part-mul s (l * up e) (down d), neg_part-mul s (l * up e) (down d), pos_part-mul t (i * up d) (down e), neg_part-mul t (i * up d) (down e))
    at (not-below s t (l * up e * down d) (i * up d * down e) h)

-- Of two numbers, the one that is not above the other is at most the other.
pub not-lt-≼ : (x y : Float) → Number x → Number y → T (not (lt y x)) → x ≼ y
not-lt-≼ x y n m h = of-Le (not-lt-Le x y n m h)

-- A NaN alone differs from itself.
pub differs-nan : (x : Float) → ne x x ≡ is_nan x
unfolding ne is_nan
differs-nan nan = refl
differs-nan (inf true) = refl
differs-nan (inf false) = refl
differs-nan (fin true m e) = ap (λ (b : Bool). not (b && true)) (is_true (eqb (m * up e * down e) (m * up e * down e)) (eqb_refl (m * up e * down e)))
differs-nan (fin false m e) = ap (λ (b : Bool). not (b && true)) (is_true (eqb (m * up e * down e) (m * up e * down e)) (eqb_refl (m * up e * down e)))
