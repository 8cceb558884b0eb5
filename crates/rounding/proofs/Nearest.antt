-- `round` gives the nearest value of the format, ties to even: `round-nearest`. Values are counted in units of the format's smallest, 2 ^ -low f:
-- the midpoint of the result and of any other value of the format is not nearer to the result than the fraction is, on either side; and where the fraction
-- is that very midpoint, the result's last kept digit is even. It rests on `no-value-between`: the format has no value strictly between two
-- neighbouring multiples of the last kept unit.
use mathlib.Core.Path.{◌≡◌, refl, sym, ap, ◌∙◌, subst}
use mathlib.Core.Logic.{◌⊎◌, inl, inr}
use mathlib.Core.Bool.{false, ◌&&◌}
use Prim.Native.Nat.{ℕ, zero, suc, ◌+◌, ◌-◌, ◌*◌, ◌/◌, ◌%◌, ◌≤◌, ◌<◌, ◌^◌, compare, Ordering}
use native.Mathlib.Nat.{le_trans, le_of_eq, le_of_lt, lt_of_le_of_lt, lt_of_lt_of_le, lt_irrefl, eq-zero-or-pos, mul_assoc, mul_comm, mul-le-mul_right}
use native.Mathlib.Nat.{mul-lt-mul_of_pos_right, lt_of_mul-lt-mul_right, mod-lt, mul-pos, mul-div_cancel, le-div_iff_mul-le, div-add-mod'}
use native.Mathlib.Omega.{arith}
use lib.IntN.{pos, negsuc}
use lib.Dec.{T, eqb, ltb, leb, ltb→lt, leb→le}
use lib.Pow.{pow-add, pow_pos, pow_mono}
use lib.Ieee.{Float, nan, inf, fin, Format, prec, low, emax, up, down, size, nearest, round, fits}
use lib.Ieee.Digits.{size_reaches}
use lib.Ieee.Fits.{and_l, and_r, down_pos, two}
use lib.Ieee.Exact.{HasValue}
use lib.Ieee.Order.{drop}
use lib.Ieee.Scale.{finite, grid, round_val, round_under}
use lib.Ieee.Positive.{den as den-of, den_pos, value→cross}
use lib.Arith.{lt_of_le-ne}
use Rattle.rounding.proofs.HalfUnits.{Compares, compares}
use Rattle.rounding.proofs.Encoding.{pow_lt_cancel}

-- The result is R units, another value of the format Y units, the fraction n / d units; the last kept unit is 2 ^ k units.
pub record Nearest (n d k R Y : ℕ) : Type 0 where
  pub from-below : Y < R → (R + Y) * d ≤ 2 * n
  pub from-above : R < Y → 2 * n ≤ (R + Y) * d
  pub tie-even : (R ≡ Y → ⊥) → (R + Y) * d ≡ 2 * n → R / 2 ^ k % 2 ≡ 0

mul-cancel : (a b c : ℕ) → 0 < c → a * c ≡ b * c → a ≡ b
mul-cancel a b c C e = sym (mul-div_cancel a C) ∙ ap (λ (x : ℕ). x / c) e ∙ mul-div_cancel b C

-- ---- a value of the format is m * 2 ^ j units, m having at most prec digits
pub record Units (f : Format) (Y : ℕ) : Type 0 where
  pub digits : ℕ
  pub exponent : ℕ
  pub is : Y ≡ digits * 2 ^ exponent
  pub few : digits < 2 ^ prec f

pub value-units : (f : Format) (y : Float) (Y : ℕ) → T (fits f y) → HasValue y false Y (2 ^ low f) → Units f Y
unfolding fits
value-units f nan Y t v = absurd v
value-units f (inf s) Y t v = absurd v
value-units f (fin s zero e) Y t v = record { digits = 0; exponent = 0; is = cancel Y (down e) (down_pos e) v.1; few = pow_pos (prec f) }
  where
    cancel : (Y d : ℕ) → 0 < d → 0 * up e * 2 ^ low f ≡ Y * d → Y ≡ 0 * 2 ^ 0
    cancel Y d D h = elim (eq-zero-or-pos Y) [ inl z ↦ omega (arith, z) | inr p ↦ absurd (let q : 0 < Y * d = mul-pos p D in omega arith) ]
value-units f (fin s (suc m) (pos k)) Y t v = record {
  digits = suc m;
  exponent = k + low f;
  is = (let w = v.1 in let z : Y ≡ suc m * 2 ^ k * 2 ^ low f = omega arith in z)
      ∙ mul_assoc (suc m) (2 ^ k) (2 ^ low f) ∙ ap (λ (x : ℕ). suc m * x) (sym (pow-add 2 k (low f)));
  few = ltb→lt (suc m) (2 ^ prec f) (and_r (eqb (suc m % 2) 1) (ltb (suc m) (2 ^ prec f)) (and_l (eqb (suc m % 2) 1 && ltb (suc m) (2 ^ prec f))
      (leb 1 (2 ^ low f)) (and_l (eqb (suc m % 2) 1 && ltb (suc m) (2 ^ prec f) && leb 1 (2 ^ low f)) (ltb (suc m * 2 ^ k) (2 ^ suc (emax f) * 1)) t)));
}
value-units f (fin s (suc m) (negsuc k)) Y t v =
    let t₁ = and_l (eqb (suc m % 2) 1 && ltb (suc m) (2 ^ prec f) && leb (2 ^ suc k) (2 ^ low f)) (ltb (suc m * 1) (2 ^ suc (emax f) * 2 ^ suc k)) t in
    let l : 2 ^ suc k ≤ 2 ^ low f = leb→le (2 ^ suc k) (2 ^ low f) (and_r (eqb (suc m % 2) 1 && ltb (suc m) (2 ^ prec f)) (leb (2 ^ suc k) (2 ^ low f)) t₁) in
    let K : suc k ≤ low f = pow-le-cancel (suc k) (low f) l in
    let e : 2 ^ low f ≡ 2 ^ (low f - suc k) * 2 ^ suc k = ap (λ (x : ℕ). 2 ^ x) (back (suc k) (low f) K) ∙ pow-add 2 (low f - suc k) (suc k) in
    record {
      digits = suc m;
      exponent = low f - suc k;
      is = mul-cancel Y (suc m * 2 ^ (low f - suc k)) (2 ^ suc k) (pow_pos (suc k))
          (sym v.1 ∙ ap (λ (x : ℕ). suc m * 1 * x) e ∙ regroup (suc m) (2 ^ (low f - suc k)) (2 ^ suc k));
      few = ltb→lt (suc m) (2 ^ prec f)
          (and_r (eqb (suc m % 2) 1) (ltb (suc m) (2 ^ prec f)) (and_l (eqb (suc m % 2) 1 && ltb (suc m) (2 ^ prec f)) (leb (2 ^ suc k) (2 ^ low f)) t₁));
    }
  where
    pow-le-cancel : (i p : ℕ) → 2 ^ i ≤ 2 ^ p → i ≤ p
    pow-le-cancel i p h = let l : i < p + 1 =
        pow_lt_cancel i (p + 1) (lt_of_le_of_lt h (subst (λ (x : ℕ). 2 ^ p < x) (sym (pow-add 2 p 1)) (let q = pow_pos p in omega arith))) in omega arith

    back : (i p : ℕ) → i ≤ p → p ≡ p - i + i
    back i p h = omega arith

    regroup : (a b c : ℕ) → a * 1 * (b * c) ≡ a * b * c
    regroup a b c = omega arith

-- ---- between two neighbouring multiples of 2 ^ k units, q of them having all digits where k is above 0, the format has no value
no-value-between : (p k q m j : ℕ) → 0 < p → (0 < k → 2 ^ (p - 1) ≤ q) → m < 2 ^ p → q * 2 ^ k < m * 2 ^ j → m * 2 ^ j < suc q * 2 ^ k → ⊥
no-value-between p k q m j P full M lo hi = elim (eq-zero-or-pos (k - j)) [ inl e ↦ coarse (omega arith) | inr l ↦ fine (omega arith) ]
  where
    -- m * 2 ^ j is itself such a multiple
    coarse : k ≤ j → ⊥
    coarse h =
        let e : m * 2 ^ j ≡ m * 2 ^ (j - k) * 2 ^ k =
        ap (λ (x : ℕ). m * x) (ap (λ (x : ℕ). 2 ^ x) (split k j h) ∙ pow-add 2 (j - k) k) ∙ sym (mul_assoc m (2 ^ (j - k)) (2 ^ k)) in
        let a : q < m * 2 ^ (j - k) = lt_of_mul-lt-mul_right (2 ^ k) (subst (λ (x : ℕ). q * 2 ^ k < x) e lo) in
        let b : m * 2 ^ (j - k) < suc q = lt_of_mul-lt-mul_right (2 ^ k) (subst (λ (x : ℕ). x < suc q * 2 ^ k) e hi) in
        omega arith
      where
        split : (k j : ℕ) → k ≤ j → j ≡ j - k + k
        split k j h = omega arith

    -- m * 2 ^ j is below the least number with all digits
    fine : j < k → ⊥
    fine h =
        let all : 2 ^ (p - 1) ≤ q = full (omega arith) in
        let a : 2 ^ (p - 1) * 2 ^ k ≤ q * 2 ^ k = mul-le-mul_right (2 ^ k) all in
        let b : 2 ^ p * 2 ^ j ≤ 2 ^ (p - 1) * 2 ^ k =
        le_trans (le_of_eq (sym (pow-add 2 p j))) (le_trans (pow_mono {i = p + j} {j = p - 1 + k} (omega arith)) (le_of_eq (pow-add 2 (p - 1) k))) in
        let c : m * 2 ^ j ≤ 2 ^ p * 2 ^ j = mul-le-mul_right (2 ^ j) (le_of_lt M) in
        lt_irrefl (m * 2 ^ j) (lt_of_le_of_lt (le_trans c (le_trans b a)) lo)

-- ---- n = q * u + r with u = d * 2 ^ k: how the nearest multiple is chosen
module _ (n d k q r : ℕ) (D : 0 < d) (e : q * (d * 2 ^ k) + r ≡ n) (small : r < d * 2 ^ k) (Y : ℕ) (outside : q * 2 ^ k < Y → Y < suc q * 2 ^ k → ⊥) where
  at_most : (a b : ℕ) → a ≤ b * 2 ^ k → a * d ≤ b * (d * 2 ^ k)
  at_most a b h = le_trans (mul-le-mul_right d h) (le_of_eq (mul_assoc b (2 ^ k) d ∙ ap (λ (x : ℕ). b * x) (mul_comm (2 ^ k) d)))

  at_least : (a b : ℕ) → b * 2 ^ k ≤ a → b * (d * 2 ^ k) ≤ a * d
  at_least a b h = le_trans (le_of_eq (sym (mul_assoc b (2 ^ k) d ∙ ap (λ (x : ℕ). b * x) (mul_comm (2 ^ k) d)))) (mul-le-mul_right d h)

  kept-even : (c : ℕ) → c % 2 ≡ 0 → c * 2 ^ k / 2 ^ k % 2 ≡ 0
  kept-even c h = ap (λ (x : ℕ). x % 2) (mul-div_cancel c (pow_pos k)) ∙ h

  -- the other value lies at or below the multiple q, or at or above the next
  below-or-above : (Y ≤ q * 2 ^ k) ⊎ (suc q * 2 ^ k ≤ Y)
  below-or-above = elim (eq-zero-or-pos (Y - q * 2 ^ k)) [
    | inl z ↦ inl (omega arith)
    | inr l ↦ inr (let above : q * 2 ^ k < Y = omega arith in let g : Y < suc q * 2 ^ k → ⊥ = outside above in not-lt Y (suc q * 2 ^ k) g)
  ]
    where
      not-lt : (a b : ℕ) → (a < b → ⊥) → b ≤ a
      not-lt a b g = elim (eq-zero-or-pos (b - a)) [ inl z ↦ omega arith | inr l ↦ absurd (g (omega arith)) ]

  -- rounded down: r is less than half of u, or half of it with q even
  down-nearest : r * 2 ≤ d * 2 ^ k → (r * 2 ≡ d * 2 ^ k → q % 2 ≡ 0) → Nearest n d k (q * 2 ^ k) Y
  down-nearest h even = record {
    from-below = λ (l : Y < q * 2 ^ k). let a = at_most (q * 2 ^ k) q (le_of_eq refl) in let b = at_most Y q (le_of_lt l) in omega arith;
    from-above = λ (l : q * 2 ^ k < Y). above l;
    tie-even = λ (ne : q * 2 ^ k ≡ Y → ⊥) (t : (q * 2 ^ k + Y) * d ≡ 2 * n). kept-even q (even (tie ne t));
  }
    where
      above : q * 2 ^ k < Y → 2 * n ≤ (q * 2 ^ k + Y) * d
      above l = elim below-or-above [
        | inl g ↦ absurd (lt_irrefl Y (lt_of_le_of_lt g l))
        | inr g ↦ let a = at_least (q * 2 ^ k) q (le_of_eq refl) in let b = at_least Y (suc q) g in omega arith
      ]

      tie : (q * 2 ^ k ≡ Y → ⊥) → (q * 2 ^ k + Y) * d ≡ 2 * n → r * 2 ≡ d * 2 ^ k
      tie ne t = elim below-or-above [
        | inl g ↦
            let l : Y < q * 2 ^ k = lt_of_le-ne g (λ (z : Y ≡ q * 2 ^ k). ne (sym z)) in
            let a = at_most (q * 2 ^ k) q (le_of_eq refl) in
            let b : Y * d < q * 2 ^ k * d = mul-lt-mul_of_pos_right l D in
            absurd (omega arith)
        | inr g ↦ let a = at_least (q * 2 ^ k) q (le_of_eq refl) in let b = at_least Y (suc q) g in omega arith
      ]

  -- rounded up: r is more than half of u, or half of it with q odd
  up-nearest : d * 2 ^ k ≤ r * 2 → (r * 2 ≡ d * 2 ^ k → suc q % 2 ≡ 0) → Nearest n d k (suc q * 2 ^ k) Y
  up-nearest h even = record {
    from-below = λ (l : Y < suc q * 2 ^ k). below l;
    from-above = λ (l : suc q * 2 ^ k < Y). let a = at_least (suc q * 2 ^ k) (suc q) (le_of_eq refl) in let b = at_least Y (suc q) (le_of_lt l) in omega arith;
    tie-even = λ (ne : suc q * 2 ^ k ≡ Y → ⊥) (t : (suc q * 2 ^ k + Y) * d ≡ 2 * n). kept-even (suc q) (even (tie ne t));
  }
    where
      below : Y < suc q * 2 ^ k → (suc q * 2 ^ k + Y) * d ≤ 2 * n
      below l = elim below-or-above [
        | inl g ↦ let a = at_most (suc q * 2 ^ k) (suc q) (le_of_eq refl) in let b = at_most Y q g in omega arith
        | inr g ↦ absurd (lt_irrefl Y (lt_of_lt_of_le l g))
      ]

      tie : (suc q * 2 ^ k ≡ Y → ⊥) → (suc q * 2 ^ k + Y) * d ≡ 2 * n → r * 2 ≡ d * 2 ^ k
      tie ne t = elim below-or-above [
        | inl g ↦ let a = at_most (suc q * 2 ^ k) (suc q) (le_of_eq refl) in let b = at_most Y q g in omega arith
        | inr g ↦
            let l : suc q * 2 ^ k < Y = lt_of_le-ne g ne in
            let a = at_least (suc q * 2 ^ k) (suc q) (le_of_eq refl) in
            let b : suc q * 2 ^ k * d < Y * d = mul-lt-mul_of_pos_right l D in
            absurd (omega arith)
      ]

  closest-nearest : (o : Ordering) → Compares o (r * 2) (d * 2 ^ k) → Nearest n d k (nearest q o * 2 ^ k) Y
  closest-nearest Ordering.lt c = down-nearest (le_of_lt c) (λ (z : r * 2 ≡ d * 2 ^ k). absurd (omega arith))
  closest-nearest Ordering.gt c = up-nearest (le_of_lt c) (λ (z : r * 2 ≡ d * 2 ^ k). absurd (omega arith))
  closest-nearest Ordering.eq c = go (q % 2) refl
    where
      go : (b : ℕ) → q % 2 ≡ b → Nearest n d k ((q + b) * 2 ^ k) Y
      go zero z =
          subst (λ (x : ℕ). Nearest n d k (x * 2 ^ k) Y) (let s : q ≡ q + 0 = omega arith in s) (down-nearest (le_of_eq c) (λ (w : r * 2 ≡ d * 2 ^ k). z))
      go (suc b) z =
          let one : b ≡ 0 = omega arith in
          subst (λ (x : ℕ). Nearest n d k (x * 2 ^ k) Y) (let s : suc q ≡ q + suc b = omega arith in s)
          (up-nearest (le_of_eq (sym c)) (λ (w : r * 2 ≡ d * 2 ^ k). let s : suc q % 2 ≡ 0 = omega arith in s))

grid-nearest : (f : Format) (num den Y : ℕ) → 0 < den → Units f Y → Nearest (num * 2 ^ low f) den (drop (prec f) (num * 2 ^ low f) den) (grid f num den) Y
grid-nearest f num den Y D u =
    let n = num * 2 ^ low f in
    let p = prec f in
    let k = drop p n den in
    let w = den * 2 ^ k in
    let q = n / w in
    closest-nearest n den k q (n % w) D (div-add-mod' n w) (mod-lt n (mul-pos D (pow_pos k))) Y
    (λ (a : q * 2 ^ k < Y) (b : Y < suc q * 2 ^ k).
    no-value-between p k q u.digits u.exponent (positive-prec f) (all_digits n den p (positive-prec f) D)
    u.few (subst (λ (x : ℕ). q * 2 ^ k < x) u.is a) (subst (λ (x : ℕ). x < suc q * 2 ^ k) u.is b))
    (compare (n % w * 2) w) (compares (n % w * 2) w)
  where
    positive-prec : (f : Format) → 0 < prec f
    positive-prec f = let h = two f in omega arith

    -- where digits are dropped, prec of them are kept
    all_digits : (n d p : ℕ) → 0 < p → 0 < d → 0 < size (n / d) - p → 2 ^ (p - 1) ≤ n / (d * 2 ^ (size (n / d) - p))
    all_digits n d p P D K =
        let z = size (n / d) in
        let a : 2 ^ (z - 1) ≤ n / d = size_reaches (n / d) (z - 1) (omega arith) in
        let b : 2 ^ (z - 1) * d ≤ n = (le-div_iff_mul-le D).0 a in
        let e : 2 ^ (z - 1) * d ≡ 2 ^ (p - 1) * (d * 2 ^ (z - p)) = place p z d P K in
        (le-div_iff_mul-le (mul-pos D (pow_pos (z - p)))).1 (le_trans (le_of_eq (sym e)) b)
      where
        place : (p z d : ℕ) → 0 < p → 0 < z - p → 2 ^ (z - 1) * d ≡ 2 ^ (p - 1) * (d * 2 ^ (z - p))
        place p z d P K =
            ap (λ (x : ℕ). x * d) (ap (λ (x : ℕ). 2 ^ x) (let e : z - 1 ≡ p - 1 + (z - p) = omega arith in e) ∙ pow-add 2 (p - 1) (z - p))
            ∙ mul_assoc (2 ^ (p - 1)) (2 ^ (z - p)) d
            ∙ ap (λ (x : ℕ). 2 ^ (p - 1) * x) (mul_comm (2 ^ (z - p)) d)

-- The value of the format nearest to num / den, ties to even: R units, against any other value y of the format, Y units.
pub round-nearest : (f : Format) (num den : ℕ) → 0 < den → (R : ℕ) → HasValue (round f false num den) false R (2 ^ low f)
    → (y : Float) (Y : ℕ) → T (fits f y) → HasValue y false Y (2 ^ low f) → Nearest (num * 2 ^ low f) den (drop (prec f) (num * 2 ^ low f) den) R Y
round-nearest f num den D R v y Y t w =
    subst (λ (x : ℕ). Nearest (num * 2 ^ low f) den (drop (prec f) (num * 2 ^ low f) den) x Y) (sym R-is) (grid-nearest f num den Y D (value-units f y Y t w))
  where
    value-finite : (x : Float) → HasValue x false R (2 ^ low f) → T (finite x)
    value-finite nan h = h
    value-finite (inf s) h = h
    value-finite (fin s m e) h = tt

    R-is : R ≡ grid f num den
    R-is =
        let x = round f false num den in
        let g = round_val f num den (round_under f num den (value-finite x v)) in
        mul-cancel R (grid f num den) (den-of x) (den_pos x) (sym (value→cross x R (2 ^ low f) v) ∙ value→cross x (grid f num den) (2 ^ low f) g)
