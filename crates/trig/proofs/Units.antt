-- The sine in units, biased, over five quarter turns: it rises to Q (`sin-rises-first`), falls to 3 Q (`sin-falls`) and rises to 5 Q (`sin-rises-last`).
-- So between two ends it is not above both of them unless Q lies between (`sin-below-end`), nor below both unless 3 Q does (`sin-above-end`).
-- The cosine is the sine a quarter turn on: it falls to 2 Q, rises to 4 Q and falls again, `cos-..` likewise. All rest on the rise of `quarter_sine`.
use mathlib.Core.Path.{◌≡◌, refl, sym, ap, ap₂, subst₂, ◌∙◌}
use mathlib.Core.Logic.{◌⊎◌, inl, inr}
use mathlib.Core.List.{List}
use Prim.Native.Nat.{ℕ, zero, suc, ◌+◌, ◌-◌, ◌*◌, ◌/◌, ◌%◌, ◌^◌, ◌≤◌, ◌<◌, min}
use native.Mathlib.Nat.{le_trans, eq-or-lt_of_le}
use native.Mathlib.Decide.{dec_le, dec_lt}
use native.Mathlib.Omega.{arith}
use borrow.Author.Tests.{le-leb, lt-leb}
use mathlib.Core.Bool.{Bool, true, cond}
use lib.IntN.{pos, negsuc, neg_ℤ}
use lib.Signed.{le_z}
use lib.Ieee.{minus}
use Rattle.sine_table.specs.Table.{quarter_turn, sine_table}
use Rattle.sine_table.specs.QuarterSine.{quarter_sine_over, quarter_sine, entry}
use Rattle.sine_table.proofs.QuarterSine.{quarter_sine-mono, quarter_sine-zero, quarter_sine-le-one, quarter_sine_over-table}
use Rattle.trig.specs.Units.{sin_quarter, sin_units_over, sin_units, cos_units}
use Rattle.trig.specs.Biased.{biased, biased_sin}
use Rattle.trig.specs.means.Computing.{computing}

-- ---- the quarters

pub biased-negative : (n : ℕ) → biased (neg_ℤ (pos n)) ≡ 2 ^ 30 - n
unfolding biased
biased-negative zero = refl
biased-negative (suc n) = refl

pub minus-above : (a c : ℕ) → c ≤ a → minus a c ≡ pos (a - c)
minus-above a c h = ap (λ (t : Bool). cond t (pos (a - c)) (negsuc (c - suc a))) (le-leb c a h)

pub minus-below : (a c : ℕ) → a < c → minus a c ≡ negsuc (c - suc a)
minus-below a c h = ap (λ (t : Bool). cond t (pos (a - c)) (negsuc (c - suc a))) (lt-leb c a h)

pub minus-le : (a b c : ℕ) → a ≤ b → le_z (minus a c) (minus b c) ≡ true
minus-le a b c h = go (dec_le c a) (dec_le c b)
  where
    go : Dec (c ≤ a) → Dec (c ≤ b) → le_z (minus a c) (minus b c) ≡ true
    go (yes p) (yes q) = rw (minus-above a c p, minus-above b c q) (le-leb (a - c) (b - c) (omega arith))
    go (yes p) (no q) = absurd (omega arith)
    go (no p) (yes q) = rw (minus-below a c (omega arith), minus-above b c q)
    go (no p) (no q) = rw (minus-below a c (omega arith), minus-below b c (omega arith)) (le-leb (c - suc b) (c - suc a) (omega arith))

-- From -2 ^ 30 on the bias is taken off again.
pub unbiased-positive : (n : ℕ) → minus (biased (pos n)) (2 ^ 30) ≡ pos n
unfolding biased
unbiased-positive n = minus-above (2 ^ 30 + n) (2 ^ 30) (omega arith) ∙ ap pos (omega arith)

pub unbiased-negative : (n : ℕ) → n ≤ 2 ^ 30 → minus (biased (neg_ℤ (pos n))) (2 ^ 30) ≡ neg_ℤ (pos n)
unfolding biased
unbiased-negative zero h = refl
unbiased-negative (suc n) h = minus-below (2 ^ 30 - suc n) (2 ^ 30) (omega arith) ∙ ap negsuc (omega arith)

pub biased-minus : (n : ℕ) → biased (minus n (2 ^ 30)) ≡ n
unfolding biased
biased-minus n = go (dec_le (2 ^ 30) n)
  where
    go : Dec (2 ^ 30 ≤ n) → biased (minus n (2 ^ 30)) ≡ n
    go (yes p) = ap biased (minus-above n (2 ^ 30) p) ∙ (let e : 2 ^ 30 + (n - 2 ^ 30) ≡ n = omega arith in e)
    go (no p) = ap biased (minus-below n (2 ^ 30) (omega arith)) ∙ (let e : 2 ^ 30 - suc (2 ^ 30 - suc n) ≡ n = omega arith in e)

-- In the quarter k, at v.
abbrev biased_quarter : ℕ → ℕ → ℕ
biased_quarter zero v = 2 ^ 30 + quarter_sine v
biased_quarter (suc zero) v = 2 ^ 30 + quarter_sine (quarter_turn - v)
biased_quarter (suc (suc zero)) v = 2 ^ 30 - quarter_sine v
biased_quarter (suc (suc (suc k))) v = 2 ^ 30 - quarter_sine (quarter_turn - v)

quarter : (k v : ℕ) → biased (sin_quarter quarter_sine k v) ≡ biased_quarter k v
unfolding biased sin_quarter
quarter zero v = refl
quarter (suc zero) v = refl
quarter (suc (suc zero)) v = biased-negative (quarter_sine v)
quarter (suc (suc (suc k))) v = biased-negative (quarter_sine (quarter_turn - v))

sin-quarter : (u k v : ℕ) → u / quarter_turn % 4 ≡ k → u % quarter_turn ≡ v → biased_sin u ≡ biased_quarter k v
unfolding sin_units sin_units_over quarter_sine
sin-quarter u k v e f = quarter (u / quarter_turn % 4) (u % quarter_turn) ∙ ap₂ biased_quarter e f

-- What the code reads at v from the sine table.
pub record Read (v r : ℕ) : Type 0 where
  pub small : r ≤ 2 ^ 30
  pub value : r ≡ quarter_sine v

pub read : (t : List ℕ) → t ≡ sine_table → (v r : ℕ) → v ≤ quarter_turn → r ≡ quarter_sine_over (entry t) (min v quarter_turn) → Read v r
read t s v r h e =
    let f : r ≡ quarter_sine v =
    e ∙ ap (quarter_sine_over (entry t)) (let z : min v quarter_turn ≡ v = omega arith in z)
    ∙ ap (λ (l : List ℕ). quarter_sine_over (entry l) v) s ∙ quarter_sine_over-table v h
    in
    record { small = rw f (quarter_sine-le-one v h); value = f }

pub sin-unbiased : (u : ℕ) → minus (biased_sin u) (2 ^ 30) ≡ sin_units u
unfolding sin_units sin_units_over quarter_sine sin_quarter
sin-unbiased u = go (u / quarter_turn % 4) (u % quarter_turn) (let l : u % quarter_turn ≤ quarter_turn = omega arith in l)
  where
    go : (k v : ℕ) → v ≤ quarter_turn → minus (biased (sin_quarter quarter_sine k v)) (2 ^ 30) ≡ sin_quarter quarter_sine k v
    go zero v h = unbiased-positive (quarter_sine v)
    go (suc zero) v h = unbiased-positive (quarter_sine (quarter_turn - v))
    go (suc (suc zero)) v h = unbiased-negative (quarter_sine v) (quarter_sine-le-one v h)
    go (suc (suc (suc k))) v h = unbiased-negative (quarter_sine (quarter_turn - v)) (quarter_sine-le-one (quarter_turn - v) (omega arith))

-- Each quarter with both its ends.
sin-first : (u : ℕ) → u ≤ quarter_turn → biased_sin u ≡ 2 ^ 30 + quarter_sine u
sin-first u h = elim (eq-or-lt_of_le h) [
  | inl e ↦ sin-quarter u 1 0 (omega (arith, e)) (omega (arith, e)) ∙ ap (λ (x : ℕ). 2 ^ 30 + quarter_sine x) (sym e)
  | inr l ↦ sin-quarter u 0 u (omega (arith, l)) (omega (arith, l))
]

sin-second : (u : ℕ) → quarter_turn ≤ u → u ≤ 2 * quarter_turn → biased_sin u ≡ 2 ^ 30 + quarter_sine (2 * quarter_turn - u)
sin-second u g h = elim (eq-or-lt_of_le h) [
  | inl e ↦ sin-quarter u 2 0 (omega (arith, e)) (omega (arith, e)) ∙ flat (quarter_sine 0) quarter_sine-zero
      ∙ ap (λ (x : ℕ). 2 ^ 30 + quarter_sine x) (let z : 0 ≡ 2 * quarter_turn - u = omega (arith, e) in z)
  | inr l ↦ sin-quarter u 1 (u - quarter_turn) (omega (arith, g, l)) (omega (arith, g, l))
      ∙ ap (λ (x : ℕ). 2 ^ 30 + quarter_sine x) (let z : quarter_turn - (u - quarter_turn) ≡ 2 * quarter_turn - u = omega (arith, g, l) in z)
]
  where
    flat : (z : ℕ) → z ≡ 0 → 2 ^ 30 - z ≡ 2 ^ 30 + z
    flat z e = omega arith

sin-third : (u : ℕ) → 2 * quarter_turn ≤ u → u ≤ 3 * quarter_turn → biased_sin u ≡ 2 ^ 30 - quarter_sine (u - 2 * quarter_turn)
sin-third u g h = elim (eq-or-lt_of_le h) [
  | inl e ↦ sin-quarter u 3 0 (omega (arith, e)) (omega (arith, e))
      ∙ ap (λ (x : ℕ). 2 ^ 30 - quarter_sine x) (let z : quarter_turn - 0 ≡ u - 2 * quarter_turn = omega (arith, e) in z)
  | inr l ↦ sin-quarter u 2 (u - 2 * quarter_turn) (omega (arith, g, l)) (omega (arith, g, l))
]

sin-fourth : (u : ℕ) → 3 * quarter_turn ≤ u → u ≤ 4 * quarter_turn → biased_sin u ≡ 2 ^ 30 - quarter_sine (4 * quarter_turn - u)
sin-fourth u g h = elim (eq-or-lt_of_le h) [
  | inl e ↦ sin-quarter u 0 0 (omega (arith, e)) (omega (arith, e)) ∙ flat (quarter_sine 0) quarter_sine-zero
      ∙ ap (λ (x : ℕ). 2 ^ 30 - quarter_sine x) (let z : 0 ≡ 4 * quarter_turn - u = omega (arith, e) in z)
  | inr l ↦ sin-quarter u 3 (u - 3 * quarter_turn) (omega (arith, g, l)) (omega (arith, g, l))
      ∙ ap (λ (x : ℕ). 2 ^ 30 - quarter_sine x) (let z : quarter_turn - (u - 3 * quarter_turn) ≡ 4 * quarter_turn - u = omega (arith, g, l) in z)
]
  where
    flat : (z : ℕ) → z ≡ 0 → 2 ^ 30 + z ≡ 2 ^ 30 - z
    flat z e = omega arith

sin-fifth : (u : ℕ) → 4 * quarter_turn ≤ u → u ≤ 5 * quarter_turn → biased_sin u ≡ 2 ^ 30 + quarter_sine (u - 4 * quarter_turn)
sin-fifth u g h = elim (eq-or-lt_of_le h) [
  | inl e ↦ sin-quarter u 1 0 (omega (arith, e)) (omega (arith, e))
      ∙ ap (λ (x : ℕ). 2 ^ 30 + quarter_sine x) (let z : quarter_turn - 0 ≡ u - 4 * quarter_turn = omega (arith, e) in z)
  | inr l ↦ sin-quarter u 0 (u - 4 * quarter_turn) (omega (arith, g, l)) (omega (arith, g, l))
]

-- ---- rise and fall

above : (a b : ℕ) → a ≤ b → 2 ^ 30 + a ≤ 2 ^ 30 + b
above a b h = omega arith

below : (a b : ℕ) → a ≤ b → 2 ^ 30 - b ≤ 2 ^ 30 - a
below a b h = omega arith

across : (a b : ℕ) → 2 ^ 30 - a ≤ 2 ^ 30 + b
across a b = omega arith

pub sin-rises-first : (a b : ℕ) → a ≤ b → b ≤ quarter_turn → biased_sin a ≤ biased_sin b
sin-rises-first a b h k = rw (sin-first a (le_trans h k), sin-first b k) (above (quarter_sine a) (quarter_sine b) (quarter_sine-mono a b h k))

pub sin-falls : (a b : ℕ) → quarter_turn ≤ a → a ≤ b → b ≤ 3 * quarter_turn → biased_sin b ≤ biased_sin a
sin-falls a b g h k = go (dec_lt a (2 * quarter_turn)) (dec_lt b (2 * quarter_turn))
  where
    go : Dec (a < 2 * quarter_turn) → Dec (b < 2 * quarter_turn) → biased_sin b ≤ biased_sin a
    go (yes p) (yes q) = rw (sin-second a g (omega arith), sin-second b (omega arith) (omega arith)) (above (quarter_sine (2 * quarter_turn - b))
        (quarter_sine (2 * quarter_turn - a)) (quarter_sine-mono (2 * quarter_turn - b) (2 * quarter_turn - a) (omega arith) (omega arith)))
    go (yes p) (no q) =
        rw (sin-second a g (omega arith), sin-third b (omega arith) k) (across (quarter_sine (b - 2 * quarter_turn)) (quarter_sine (2 * quarter_turn - a)))
    go (no p) (yes q) = absurd (omega arith)
    go (no p) (no q) = rw (sin-third a (omega arith) (omega arith), sin-third b (omega arith) k) (below (quarter_sine (a - 2 * quarter_turn))
        (quarter_sine (b - 2 * quarter_turn)) (quarter_sine-mono (a - 2 * quarter_turn) (b - 2 * quarter_turn) (omega arith) (omega arith)))

pub sin-rises-last : (a b : ℕ) → 3 * quarter_turn ≤ a → a ≤ b → b ≤ 5 * quarter_turn → biased_sin a ≤ biased_sin b
sin-rises-last a b g h k = go (dec_lt a (4 * quarter_turn)) (dec_lt b (4 * quarter_turn))
  where
    go : Dec (a < 4 * quarter_turn) → Dec (b < 4 * quarter_turn) → biased_sin a ≤ biased_sin b
    go (yes p) (yes q) = rw (sin-fourth a g (omega arith), sin-fourth b (omega arith) (omega arith)) (below (quarter_sine (4 * quarter_turn - b))
        (quarter_sine (4 * quarter_turn - a)) (quarter_sine-mono (4 * quarter_turn - b) (4 * quarter_turn - a) (omega arith) (omega arith)))
    go (yes p) (no q) =
        rw (sin-fourth a g (omega arith), sin-fifth b (omega arith) k) (across (quarter_sine (4 * quarter_turn - a)) (quarter_sine (b - 4 * quarter_turn)))
    go (no p) (yes q) = absurd (omega arith)
    go (no p) (no q) = rw (sin-fifth a (omega arith) (omega arith), sin-fifth b (omega arith) k) (above (quarter_sine (a - 4 * quarter_turn))
        (quarter_sine (b - 4 * quarter_turn)) (quarter_sine-mono (a - 4 * quarter_turn) (b - 4 * quarter_turn) (omega arith) (omega arith)))

-- ---- between two ends

pub sin-below-end : (a u b : ℕ) → a ≤ u → u ≤ b → b ≤ 5 * quarter_turn
    → (b < quarter_turn) ⊎ (quarter_turn < a) → (biased_sin u ≤ biased_sin a) ⊎ (biased_sin u ≤ biased_sin b)
sin-below-end a u b h k l (inl p) = inr (sin-rises-first u b k (omega arith))
sin-below-end a u b h k l (inr p) =
    elim (dec_lt u (3 * quarter_turn)) [ yes q ↦ inl (sin-falls a u (omega arith) h (omega arith)) | no q ↦ inr (sin-rises-last u b (omega arith) k l) ]

pub sin-above-end : (a u b : ℕ) → a ≤ u → u ≤ b → b ≤ 5 * quarter_turn
    → (b < 3 * quarter_turn) ⊎ (3 * quarter_turn < a) → (biased_sin a ≤ biased_sin u) ⊎ (biased_sin b ≤ biased_sin u)
sin-above-end a u b h k l (inl p) =
    elim (dec_lt u quarter_turn) [ yes q ↦ inl (sin-rises-first a u h (omega arith)) | no q ↦ inr (sin-falls u b (omega arith) k (omega arith)) ]
sin-above-end a u b h k l (inr p) = inl (sin-rises-last a u (omega arith) h (omega arith))

-- ---- the cosine

pub cos-unbiased : (u : ℕ) → minus (biased (cos_units u)) (2 ^ 30) ≡ cos_units u
unfolding cos_units
cos-unbiased u = sin-unbiased (u + quarter_turn)

-- By its two quarters in a half turn.
pub cos-first : (u : ℕ) → u ≤ quarter_turn → biased (cos_units u) ≡ 2 ^ 30 + quarter_sine (quarter_turn - u)
unfolding cos_units
cos-first u h = sin-second (u + quarter_turn) (omega arith) (omega arith)
    ∙ ap (λ (x : ℕ). 2 ^ 30 + quarter_sine x) (let e : 2 * quarter_turn - (u + quarter_turn) ≡ quarter_turn - u = omega arith in e)

pub cos-second : (u : ℕ) → quarter_turn ≤ u → u ≤ 2 * quarter_turn → biased (cos_units u) ≡ 2 ^ 30 - quarter_sine (u - quarter_turn)
unfolding cos_units
cos-second u g h = sin-third (u + quarter_turn) (omega arith) (omega arith)
    ∙ ap (λ (x : ℕ). 2 ^ 30 - quarter_sine x) (let e : u + quarter_turn - 2 * quarter_turn ≡ u - quarter_turn = omega arith in e)

pub cos-half-turn : biased (cos_units (2 * quarter_turn)) ≡ 0
unfolding computing
cos-half-turn = refl

pub cos-falls : (a b : ℕ) → a ≤ b → b ≤ 2 * quarter_turn → biased (cos_units b) ≤ biased (cos_units a)
unfolding cos_units
cos-falls a b h k = sin-falls (a + quarter_turn) (b + quarter_turn) (omega arith) (omega arith) (omega arith)

pub cos-rises : (a b : ℕ) → 2 * quarter_turn ≤ a → a ≤ b → b ≤ 4 * quarter_turn → biased (cos_units a) ≤ biased (cos_units b)
unfolding cos_units
cos-rises a b g h k = sin-rises-last (a + quarter_turn) (b + quarter_turn) (omega arith) (omega arith) (omega arith)

-- Four quarter turns on it is the same.
sin-period : (u : ℕ) → biased_sin (u + 4 * quarter_turn) ≡ biased_sin u
sin-period u = sin-quarter (u + 4 * quarter_turn) (u / quarter_turn % 4) (u % quarter_turn) (omega arith) (omega arith)
    ∙ sym (sin-quarter u (u / quarter_turn % 4) (u % quarter_turn) refl refl)

pub cos-falls-again : (a b : ℕ) → 4 * quarter_turn ≤ a → a ≤ b → b ≤ 5 * quarter_turn → biased (cos_units b) ≤ biased (cos_units a)
unfolding cos_units
cos-falls-again a b g h k =
    subst₂ (λ (x y : ℕ). x ≤ y) (back b (omega arith)) (back a g)
    (sin-falls (a - 3 * quarter_turn) (b - 3 * quarter_turn) (omega arith) (omega arith) (omega arith))
  where
    back : (a : ℕ) → 4 * quarter_turn ≤ a → biased_sin (a - 3 * quarter_turn) ≡ biased_sin (a + quarter_turn)
    back a g = sym (sin-period (a - 3 * quarter_turn)) ∙ ap biased_sin (let e : a - 3 * quarter_turn + 4 * quarter_turn ≡ a + quarter_turn = omega arith in e)

pub cos-below-end : (a u b : ℕ) → a ≤ u → u ≤ b → b ≤ 5 * quarter_turn → 0 < a → (b < 4 * quarter_turn) ⊎ (4 * quarter_turn < a)
    → (biased (cos_units u) ≤ biased (cos_units a)) ⊎ (biased (cos_units u) ≤ biased (cos_units b))
cos-below-end a u b h k l z (inl p) =
    elim (dec_lt u (2 * quarter_turn)) [ yes q ↦ inl (cos-falls a u h (omega arith)) | no q ↦ inr (cos-rises u b (omega arith) k (omega arith)) ]
cos-below-end a u b h k l z (inr p) = inl (cos-falls-again a u (omega arith) h (omega arith))

pub cos-above-end : (a u b : ℕ) → a ≤ u → u ≤ b → b ≤ 5 * quarter_turn → (b < 2 * quarter_turn) ⊎ (2 * quarter_turn < a)
    → (biased (cos_units a) ≤ biased (cos_units u)) ⊎ (biased (cos_units b) ≤ biased (cos_units u))
cos-above-end a u b h k l (inl p) = inr (cos-falls u b k (omega arith))
cos-above-end a u b h k l (inr p) =
    elim (dec_lt u (4 * quarter_turn)) [ yes q ↦ inl (cos-rises a u (omega arith) h (omega arith)) | no q ↦ inr (cos-falls-again u b (omega arith) k l) ]
