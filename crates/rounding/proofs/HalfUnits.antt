-- When two fractions round alike. Equal fractions do (lib.Ieee's `round_same`); so do two that no multiple of half a unit in the last kept place tells
-- apart, `SameHalves`: `round-same-halves`. It is what an integer algorithm needs whose last digit says only 'and something more' (a sticky digit).
use mathlib.Core.Path.{◌≡◌, refl, sym, ap, ap₂, ◌∙◌, subst}
use Prim.Native.Nat.{ℕ, zero, suc, ◌+◌, ◌-◌, ◌*◌, ◌/◌, ◌%◌, ◌≤◌, ◌<◌, ◌^◌, compare, Ordering, zero-le}
use native.Mathlib.Nat.{le_trans, le_of_eq, le_antisymm, lt_of_lt_of_le, lt_of_not-le, not-le_of_lt, mul_assoc}
use native.Mathlib.Nat.{mul_comm, mul-pos, le-div_iff_mul-le, div-mul-le_self, div-add-mod', pow-suc}
use native.Mathlib.Omega.{arith}
use mathlib.Core.Bool.{Bool, not}
use lib.Dec.{T, is_le, compare_is_eq, leb→le, nleb→lt, eqb→eq, eqb_refl, eqb}
use lib.Arith.{lt_of_le-ne}
use lib.Pow.{pow-add, pow_pos, pow_mono}
use lib.Ieee.{Format, prec, low, size, nearest, units, round}
use lib.Ieee.Digits.{size-lt, size_reaches}
use lib.Ieee.Fits.{round_is}
use lib.Ieee.Order.{drop}

-- a / b and c / d, in units, are on the same side of every multiple of 2 ^ t half units.
pub record SameHalves (t a b c d : ℕ) : Type 0 where
  pub ge : (h : ℕ) → h * 2 ^ t * b ≤ 2 * a → h * 2 ^ t * d ≤ 2 * c
  pub ge' : (h : ℕ) → h * 2 ^ t * d ≤ 2 * c → h * 2 ^ t * b ≤ 2 * a
  pub le : (h : ℕ) → 2 * a ≤ h * 2 ^ t * b → 2 * c ≤ h * 2 ^ t * d
  pub le' : (h : ℕ) → 2 * c ≤ h * 2 ^ t * d → 2 * a ≤ h * 2 ^ t * b

-- ---- what `compare` says
abbrev pub Compares : Ordering → ℕ → ℕ → Type 0
Compares Ordering.lt a b = a < b
Compares Ordering.eq a b = a ≡ b
Compares Ordering.gt a b = b < a

pub compares : (a b : ℕ) → Compares (compare a b) a b
compares a b = go (compare a b) (leb→le a b) (nleb→lt a b) (eqb→eq a b) (λ (e : a ≡ b). subst (λ (x : ℕ). T (eqb a x)) e (eqb_refl a))
  where
    go : (o : Ordering) → (T (is_le o) → a ≤ b) → (T (not (is_le o)) → b < a) → (T (compare_is_eq o) → a ≡ b) → (a ≡ b → T (compare_is_eq o)) → Compares o a b
    go Ordering.lt h k e n = lt_of_le-ne (h tt) n
    go Ordering.eq h k e n = e tt
    go Ordering.gt h k e n = k tt

same-order : (o p : Ordering) (a b c d : ℕ) → Compares o a b → Compares p c d → (a ≤ b → c ≤ d) → (c ≤ d → a ≤ b) → (b ≤ a → d ≤ c) → (d ≤ c → b ≤ a) → o ≡ p
same-order Ordering.lt Ordering.lt a b c d x y h h' k k' = refl
same-order Ordering.lt Ordering.eq a b c d x y h h' k k' = let z = k' (le_of_eq (sym y)) in absurd (omega arith)
same-order Ordering.lt Ordering.gt a b c d x y h h' k k' = let l : a ≤ b = omega arith in let z = h l in absurd (omega arith)
same-order Ordering.eq Ordering.lt a b c d x y h h' k k' = let z = k (le_of_eq (sym x)) in absurd (omega arith)
same-order Ordering.eq Ordering.eq a b c d x y h h' k k' = refl
same-order Ordering.eq Ordering.gt a b c d x y h h' k k' = let z = h (le_of_eq x) in absurd (omega arith)
same-order Ordering.gt Ordering.lt a b c d x y h h' k k' = let l : c ≤ d = omega arith in let z = h' l in absurd (omega arith)
same-order Ordering.gt Ordering.eq a b c d x y h h' k k' = let z = h' (le_of_eq y) in absurd (omega arith)
same-order Ordering.gt Ordering.gt a b c d x y h h' k k' = refl

-- ---- the same number of digits
split-pow : (t z : ℕ) → t ≤ z → 2 ^ (z - t) * 2 ^ t ≡ 2 ^ z
split-pow t z h = sym (pow-add 2 (z - t) t) ∙ ap (λ (x : ℕ). 2 ^ x) (back t z h)
  where
    back : (t z : ℕ) → t ≤ z → z - t + t ≡ z
    back t z h = omega arith

size_mono : (t n b n' b' : ℕ) → 0 < b → 0 < b' → t ≤ size (n / b) → ((h : ℕ) → h * 2 ^ t * b ≤ 2 * n → h * 2 ^ t * b' ≤ 2 * n') → size (n / b) ≤ size (n' / b')
size_mono t n b n' b' B B' K g = go (size (n / b)) refl K
  where
    go : (z : ℕ) → size (n / b) ≡ z → t ≤ z → z ≤ size (n' / b')
    go zero e l = zero-le
    go (suc z) e l =
        let a : 2 ^ z * b ≤ n = (le-div_iff_mul-le B).0 (size_reaches (n / b) z (le_of_eq (sym e))) in
        let w : 2 ^ (suc z - t) * 2 ^ t * b ≤ 2 * n = rw (split-pow t (suc z) l, pow-suc 2 z) (omega arith) in
        let v : 2 ^ suc z * b' ≤ 2 * n' = rw (split-pow t (suc z) l) at (g (2 ^ (suc z - t)) w) in
        let u : 2 ^ z * b' ≤ n' = let v' = rw (pow-suc 2 z) at v in omega arith in
        lt_of_not-le (λ (k : size (n' / b') ≤ z). not-le_of_lt (lt_of_lt_of_le (size-lt (n' / b')) (pow_mono k)) ((le-div_iff_mul-le B').1 u))

-- ---- the same whole part, once k digits are dropped
regroup : (x t k b : ℕ) → t ≤ k → x * 2 ^ (k - t) * 2 ^ t * b ≡ x * (b * 2 ^ k)
regroup x t k b h =
    ap (λ (z : ℕ). z * b) (mul_assoc x (2 ^ (k - t)) (2 ^ t) ∙ ap (λ (z : ℕ). x * z) (split-pow t k h))
    ∙ mul_assoc x (2 ^ k) b
    ∙ ap (λ (z : ℕ). x * z) (mul_comm (2 ^ k) b)

whole-mono : (t k n b n' b' : ℕ) → t ≤ k → 0 < b' → ((h : ℕ) → h * 2 ^ t * b ≤ 2 * n → h * 2 ^ t * b' ≤ 2 * n') → n / (b * 2 ^ k) ≤ n' / (b' * 2 ^ k)
whole-mono t k n b n' b' K B' g =
    let x = n / (b * 2 ^ k) in
    let m : x * (b * 2 ^ k) ≤ n = div-mul-le_self n (b * 2 ^ k) in
    let w : 2 * x * 2 ^ (k - t) * 2 ^ t * b ≤ 2 * n = rw (regroup (2 * x) t k b K) (omega arith) in
    let v : 2 * x * (b' * 2 ^ k) ≤ 2 * n' = rw (regroup (2 * x) t k b' K) at (g (2 * x * 2 ^ (k - t)) w) in
    (le-div_iff_mul-le (mul-pos B' (pow_pos k))).1 (omega arith)

-- ---- the rest on the same side of a half: with n = q * u + r, twice r against u is twice n against (2 * q + 1) * u
module _ (q n u r : ℕ) (e : q * u + r ≡ n) where
  rest_le : r * 2 ≤ u → 2 * n ≤ (2 * q + 1) * u
  rest_le h = omega arith

  le-rest : 2 * n ≤ (2 * q + 1) * u → r * 2 ≤ u
  le-rest h = omega arith

  rest-ge : u ≤ r * 2 → (2 * q + 1) * u ≤ 2 * n
  rest-ge h = omega arith

  ge-rest : (2 * q + 1) * u ≤ 2 * n → u ≤ r * 2
  ge-rest h = omega arith

module _ (t k n b n' b' q : ℕ) (K : t ≤ k) (e : n / (b * 2 ^ k) ≡ q) (e' : n' / (b' * 2 ^ k) ≡ q) (g : SameHalves t n b n' b') where
  with_rest : q * (b * 2 ^ k) + n % (b * 2 ^ k) ≡ n
  with_rest = ap (λ (x : ℕ). x * (b * 2 ^ k) + n % (b * 2 ^ k)) (sym e) ∙ div-add-mod' n (b * 2 ^ k)

  with-rest' : q * (b' * 2 ^ k) + n' % (b' * 2 ^ k) ≡ n'
  with-rest' = ap (λ (x : ℕ). x * (b' * 2 ^ k) + n' % (b' * 2 ^ k)) (sym e') ∙ div-add-mod' n' (b' * 2 ^ k)

  half : ℕ
  half = (2 * q + 1) * 2 ^ (k - t)

  same_rest : compare (n % (b * 2 ^ k) * 2) (b * 2 ^ k) ≡ compare (n' % (b' * 2 ^ k) * 2) (b' * 2 ^ k)
  unfolding half
  same_rest =
      let u = b * 2 ^ k in
      let u' = b' * 2 ^ k in
      let r = n % u in
      let r' = n' % u' in
      let E : half * 2 ^ t * b ≡ (2 * q + 1) * u = regroup (2 * q + 1) t k b K in
      let E' : half * 2 ^ t * b' ≡ (2 * q + 1) * u' = regroup (2 * q + 1) t k b' K in
      same-order (compare (r * 2) u) (compare (r' * 2) u') (r * 2) u (r' * 2) u' (compares (r * 2) u) (compares (r' * 2) u')
      (λ (h : r * 2 ≤ u). le-rest q n' u' r' with-rest' (rw E' at (g.le half (rw E (rest_le q n u r with_rest h)))))
      (λ (h : r' * 2 ≤ u'). le-rest q n u r with_rest (rw E at (g.le' half (rw E' (rest_le q n' u' r' with-rest' h)))))
      (λ (h : u ≤ r * 2). ge-rest q n' u' r' with-rest' (rw E' at (g.ge half (rw E (rest-ge q n u r with_rest h)))))
      (λ (h : u' ≤ r' * 2). ge-rest q n u r with_rest (rw E at (g.ge' half (rw E' (rest-ge q n' u' r' with-rest' h)))))

-- Where a / b drops at least t digits, only multiples of 2 ^ t half units decide how it is rounded.
pub round-same-halves : (f : Format) (s : Bool) (a b c d t : ℕ) → 0 < b → 0 < d → t ≤ drop (prec f) (a * 2 ^ low f) b
    → SameHalves t (a * 2 ^ low f) b (c * 2 ^ low f) d → round f s a b ≡ round f s c d
round-same-halves f s a b c d t B D K g =
    let n = a * 2 ^ low f in
    let n' = c * 2 ^ low f in
    let p = prec f in
    let few : t ≤ size (n / b) = under t (size (n / b)) p K in
    let up : size (n / b) ≤ size (n' / d) = size_mono t n b n' d B D few g.ge in
    let S : size (n / b) ≡ size (n' / d) = le_antisymm up (size_mono t n' d n b D B (le_trans few up) g.ge') in
    let k = size (n / b) - p in
    let Q : n / (b * 2 ^ k) ≡ n' / (d * 2 ^ k) = le_antisymm (whole-mono t k n b n' d K D g.ge) (whole-mono t k n' d n b K B g.ge') in
    round_is f s a b
    ∙ ap₂ (λ (x : ℕ) (o : Ordering). units f s (nearest x o) k) Q (same_rest t k n b n' d (n' / (d * 2 ^ k)) K Q refl g)
    ∙ ap (λ (x : ℕ). units f s (nearest (n' / (d * 2 ^ (x - p))) (compare (n' % (d * 2 ^ (x - p)) * 2) (d * 2 ^ (x - p)))) (x - p)) S
    ∙ sym (round_is f s c d)
  where
    under : (t z p : ℕ) → t ≤ z - p → t ≤ z
    under t z p h = omega arith
