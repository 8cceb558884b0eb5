-- The rounded midpoint of two values of binary32 lies from one to the other, where their sum is finite: `midpoint-between`. Twice a value
-- of the format is one too, unless it overflows, so that the rounded sum is on the right side of it (`twice-below`); and half of that sum
-- is rounded to the value's own side (`own_below`). Where the sum overflows it is false: of 3e38 and 3e38 the rounded midpoint is infinite.
use mathlib.Core.Path.{◌≡◌, refl, sym, ap, subst, ◌∙◌}
use mathlib.Core.Bool.{Bool, true, false, ◌&&◌}
use mathlib.Core.Logic.{◌⊎◌, inl, inr}
use Prim.Native.Nat.{ℕ, zero, suc, ◌+◌, ◌-◌, ◌*◌, ◌%◌, ◌^◌, ◌≤◌, ◌<◌}
use native.Mathlib.Nat.{mul-pos, mul-le-mul_right, zero-lt-suc, eq-zero-or-pos, le_of_mul-le-mul_right}
use native.Mathlib.Omega.{arith}
use lib.IntN.{ℤ}
use lib.Dec.{T, eqb, ltb, leb, ltb→lt}
use lib.Pow.{pow-add, pow_pos}
use lib.Ieee.{Float, nan, inf, fin, binary32, up, down, round, neg, le, of_bits, fits}
use lib.Ieee.Fits.{down_pos, and_r, neg-fits, add-fits}
use lib.Ieee.Exact.{HasValue, round_exact}
use lib.Ieee.Scale.{finite}
use lib.Ieee.Positive.{den, den_pos}
use Rattle.own_rounding.specs.rounding.Order.{◌≼◌}
use Rattle.own_rounding.proofs.rounding.Rational.{pos_part, neg_part, num_pos, num_neg, FractionLe, fraction-trans}
use Rattle.own_rounding.proofs.rounding.Order.{≼_trans, to-fraction, neg-finite, neg-neg}
use Rattle.own_rounding.proofs.rounding.Monotone.{Rounds, rounds-mono, round-neg}
use Rattle.own_rounding.proofs.rounding.Arithmetic.{add_rounds, mul-rounds}
use Rattle.own_rounding.specs.float32.Operators.{◌⊕◌, ◌⊗◌, half}
use Rattle.own_rounding.specs.float_bits.Decode.{integer_decode}
use Rattle.own_rounding.proofs.float_bits.Decode.{decode-value, significand-lt}
use Rattle.own_rounding.proofs.OwnRounding.{own-rounding}

-- ---- a value of the format beside the rounding of a fraction
own_below : (x z : Float) {p n d : ℕ} → T (finite x) → T (fits binary32 x)
    → Rounds binary32 z p n d → 0 < d → FractionLe (num_pos x) (num_neg x) (den x) p n d → x ≼ z
own_below nan z f h r D l = absurd f
own_below (inf s) z f h r D l = absurd f
own_below (fin s m e) z f h r D l =
    let x = fin s m e in
    let o : Rounds binary32 (round binary32 s (m * up e) (down e)) (num_pos x) (num_neg x) (den x) =
    record { sign = s; size = m * up e; is = refl; value = refl } in
    ≼_trans (own-rounding x f h o).from (rounds-mono o r (down_pos e) D l)

own-above : (x z : Float) {p n d : ℕ} → T (finite x) → T (fits binary32 x)
    → Rounds binary32 z p n d → 0 < d → FractionLe p n d (num_pos x) (num_neg x) (den x) → z ≼ x
own-above nan z f h r D l = absurd f
own-above (inf s) z f h r D l = absurd f
own-above (fin s m e) z f h r D l =
    let x = fin s m e in
    let o : Rounds binary32 (round binary32 s (m * up e) (down e)) (num_pos x) (num_neg x) (den x) =
    record { sign = s; size = m * up e; is = refl; value = refl } in
    ≼_trans (rounds-mono r o D (down_pos e) l) (own-rounding x f h o).to

-- ---- twice a value
-- Where it doesn't overflow it is a value of the format.
twice-value : (s : Bool) (m : ℕ) (e : ℤ) → T (fits binary32 (fin s m e))
    → (integer_decode (fin s m e)).significand * 2 ^ ((integer_decode (fin s m e)).exponent + 1) < 2 ^ 277
    → HasValue (round binary32 s (2 * (m * up e)) (down e)) s (2 * (m * up e)) (down e)
twice-value s m e h l =
    let x = fin s m e in
    let q = (integer_decode x).significand in
    let j = (integer_decode x).exponent in
    round_exact binary32 s (2 * (m * up e)) (down e) q (j + 1) (down_pos e) (significand-lt x) l
    (double (m * up e) (2 ^ 149) q (2 ^ j) (down e) (decode-value x h tt).1 ∙ ap (λ (k : ℕ). q * k * down e) (sym (pow-add 2 j 1)))
  where
    double : (a L q J d : ℕ) → a * L ≡ q * J * d → 2 * a * L ≡ q * (J * 2) * d
    double a L q J d k = omega (arith, k)

value-between : (s : Bool) (a c : ℕ) (z y : Float) → 0 < c → HasValue z s a c → T (finite y) → z ≼ y
    → FractionLe (pos_part s a) (neg_part s a) c (num_pos y) (num_neg y) (den y)
value-between s a c nan y C v g h = absurd v
value-between s a c (inf t) y C v g h = absurd v
value-between s a c (fin t n d) y C v g h =
    fraction-trans (pos_part s a) (neg_part s a) c (pos_part t (n * up d)) (neg_part t (n * up d)) (down d) (num_pos y) (num_neg y) (den y) (down_pos d)
    (same s t v.0 (n * up d) (down d) v.1) (to-fraction {x = fin t n d} {y = y} tt g h)
  where
    same : (s t : Bool) → t ≡ s → (b d : ℕ) → b * c ≡ a * d → FractionLe (pos_part s a) (neg_part s a) c (pos_part t b) (neg_part t b) d
    same s t e b d k = subst (λ (u : Bool). FractionLe (pos_part s a) (neg_part s a) c (pos_part u b) (neg_part u b) d) (sym e) (level s)
      where
        level : (s : Bool) → FractionLe (pos_part s a) (neg_part s a) c (pos_part s b) (neg_part s b) d
        level true = omega (arith, k)
        level false = omega (arith, k)

-- ---- an overflow
big : Float
big = round binary32 false (2 ^ 128) 1

big-rounds : Rounds binary32 big (2 ^ 128) 0 1
unfolding big
big-rounds = record { sign = false; size = 2 ^ 128; is = refl; value = refl }

big-infinite : (y : Float) → T (finite y) → big ≼ y → ⊥
unfolding big round le
big-infinite nan g h = g
big-infinite (inf s) g h = g
big-infinite (fin s m e) g h = h.holds

-- A value of the format is below 2 ^ 128 in size.
below-big : (s : Bool) (m : ℕ) (e : ℤ) → T (fits binary32 (fin s m e)) → m * up e ≤ 2 ^ 128 * down e
unfolding fits
below-big s zero e h = none (2 ^ 128) (down e) (up e)
  where
    none : (K d u : ℕ) → 0 * u ≤ K * d
    none K d u = omega arith
below-big s (suc m) e h = go (ltb→lt (suc m * up e) (2 ^ 128 * down e)
    (and_r (eqb (suc m % 2) 1 && ltb (suc m) (2 ^ 24) && leb (down e) (2 ^ 149)) (ltb (suc m * up e) (2 ^ 128 * down e)) h))
  where
    go : {a b : ℕ} → a < b → a ≤ b
    go l = omega (arith, l)

split : (a b : ℕ) → (a < b) ⊎ (b ≤ a)
split a b = elim (eq-zero-or-pos (b - a)) [ inl e ↦ inr (omega (arith, e)) | inr l ↦ inl (omega (arith, l)) ]

-- Twice x is at most what a fraction that is no less rounds to, where that is finite.
twice-below : (x y : Float) {p n d : ℕ} → T (finite x) → T (fits binary32 x) → T (finite y) → T (fits binary32 y) → Rounds binary32 y p n d → 0 < d
    → FractionLe (2 * num_pos x) (2 * num_neg x) (den x) p n d
    → FractionLe (2 * num_pos x) (2 * num_neg x) (den x) (num_pos y) (num_neg y) (den y)
twice-below nan y f h g k r D l = absurd f
twice-below (inf s) y f h g k r D l = absurd f
twice-below (fin s m e) y {p} {n} {d} f h g k r D l = elim (split (q * 2 ^ (j + 1)) (2 ^ 277)) [ inl u ↦ exact u | inr u ↦ over s refl u ]
  where
    q : ℕ
    q = (integer_decode (fin s m e)).significand

    j : ℕ
    j = (integer_decode (fin s m e)).exponent

    parts : (s : Bool) (a : ℕ) → (2 * pos_part s a ≡ pos_part s (2 * a)) × (2 * neg_part s a ≡ neg_part s (2 * a))
    parts true a = (refl, refl)
    parts false a = (refl, refl)

    exact : q * 2 ^ (j + 1) < 2 ^ 277 → FractionLe (2 * pos_part s (m * up e)) (2 * neg_part s (m * up e)) (down e) (num_pos y) (num_neg y) (den y)
    exact u =
        let z = round binary32 s (2 * (m * up e)) (down e) in
        let (a, b) = parts s (m * up e) in
        let o : Rounds binary32 z (pos_part s (2 * (m * up e))) (neg_part s (2 * (m * up e))) (down e) =
        record { sign = s; size = 2 * (m * up e); is = refl; value = refl } in
        rw (a, b) (value-between s (2 * (m * up e)) (down e) z y (down_pos e) (twice-value s m e h u) g (rounds-mono o r (down_pos e) D (rw (← a, ← b) l)))

    -- 2 ^ 128 is at most twice the size of x.
    size : 2 ^ 277 ≤ q * 2 ^ (j + 1) → 2 ^ 128 * down e ≤ 2 * (m * up e)
    size u = cancel (m * up e) (2 ^ 149) (2 ^ 128) (down e) (q * 2 ^ j) (pow_pos 149)
        (subst (λ (k : ℕ). k ≤ q * 2 ^ j * 2) (pow-add 2 128 149) (subst (λ (k : ℕ). 2 ^ 277 ≤ k) (place q (2 ^ j) (2 ^ (j + 1)) (pow-add 2 j 1)) u))
        (decode-value (fin s m e) h tt).1
      where
        place : (q J K : ℕ) → K ≡ J * 2 ^ 1 → q * K ≡ q * J * 2
        place q J K e = rw e (omega arith)

        cancel : (a L K d N : ℕ) → 0 < L → K * L ≤ N * 2 → a * L ≡ N * d → K * d ≤ 2 * a
        cancel a L K d N P v w = le_of_mul-le-mul_right (omega (arith, mul-le-mul_right d v, w)) P

    over : (t : Bool) → s ≡ t → 2 ^ 277 ≤ q * 2 ^ (j + 1)
        → FractionLe (2 * pos_part s (m * up e)) (2 * neg_part s (m * up e)) (down e) (num_pos y) (num_neg y) (den y)
    over true i u = subst (λ (b : Bool). FractionLe (2 * pos_part b (m * up e)) (2 * neg_part b (m * up e)) (down e) (num_pos y) (num_neg y) (den y))
        (sym i) (far y g k (size u))
      where
        far : (y : Float) → T (finite y) → T (fits binary32 y) → 2 ^ 128 * down e ≤ 2 * (m * up e)
            → FractionLe (2 * 0) (2 * (m * up e)) (down e) (num_pos y) (num_neg y) (den y)
        far nan g k v = absurd g
        far (inf t) g k v = absurd g
        far (fin false a b) g k v = omega arith
        far (fin true a b) g k v = reach (2 ^ 128) (m * up e) (down e) (a * up b) (down b) v (below-big true a b k)
          where
            reach : (K x d y c : ℕ) → K * d ≤ 2 * x → y ≤ K * c → FractionLe (2 * 0) (2 * x) d 0 y c
            reach K x d y c v w = omega (arith, mul-le-mul_right c v, mul-le-mul_right d w)
    over false i u =
        absurd (big-infinite y g (rounds-mono big-rounds r (zero-lt-suc 0) D
        (fraction-trans (2 ^ 128) 0 1 (2 * pos_part s (m * up e)) (2 * neg_part s (m * up e)) (down e) p n d (down_pos e)
        (subst (λ (b : Bool). FractionLe (2 ^ 128) 0 1 (2 * pos_part b (m * up e)) (2 * neg_part b (m * up e)) (down e))
        (sym i) (above (2 ^ 128) (m * up e) (down e) (size u))) l)))
      where
        above : (K x d : ℕ) → K * d ≤ 2 * x → FractionLe K 0 1 (2 * x) (2 * 0) d
        above K x d v = omega (arith, v)

-- ---- the other side, by the negative
neg-parts : (x : Float) → T (finite x) → (num_pos (neg x) ≡ num_neg x) × ((num_neg (neg x) ≡ num_pos x) × (den (neg x) ≡ den x))
unfolding neg
neg-parts nan f = absurd f
neg-parts (inf s) f = absurd f
neg-parts (fin true m e) f = (refl, (refl, refl))
neg-parts (fin false m e) f = (refl, (refl, refl))

neg-rounds : {y : Float} {p n d : ℕ} → Rounds binary32 y p n d → Rounds binary32 (neg y) n p d
neg-rounds {y} {p} {n} {d} r = go r.sign r.is r.value
  where
    go : (s : Bool) → y ≡ round binary32 s r.size d → pos_part s r.size + n ≡ p + neg_part s r.size → Rounds binary32 (neg y) n p d
    go true e v = record {
      sign = false;
      size = r.size;
      is = ap neg (e ∙ round-neg binary32 r.size d) ∙ neg-neg (round binary32 false r.size d);
      value = omega (arith, v);
    }
    go false e v = record { sign = true; size = r.size; is = ap neg e ∙ sym (round-neg binary32 r.size d); value = omega (arith, v) }

twice-above : (x y : Float) {p n d : ℕ} → T (finite x) → T (fits binary32 x) → T (finite y) → T (fits binary32 y) → Rounds binary32 y p n d → 0 < d
    → FractionLe p n d (2 * num_pos x) (2 * num_neg x) (den x)
    → FractionLe (num_pos y) (num_neg y) (den y) (2 * num_pos x) (2 * num_neg x) (den x)
twice-above x y {p} {n} {d} f h g k r D l =
    let (a, (b, c)) = neg-parts x f in
    let (a', (b', c')) = neg-parts y g in
    let t = twice-below (neg x) (neg y) (neg-finite x f) (neg-fits binary32 x h) (neg-finite y g) (neg-fits binary32 y k) (neg-rounds r) D
    (rw (a, b, c) (turn p n d (2 * num_pos x) (2 * num_neg x) (den x) l)) in
    turn (2 * num_neg x) (2 * num_pos x) (den x) (num_neg y) (num_pos y) (den y) (rw (a, b, c, a', b', c') at t)
  where
    turn : (p n d q m e : ℕ) → FractionLe p n d q m e → FractionLe m q e n p d
    turn p n d q m e l = omega (arith, l)

-- ---- the midpoint
module _ (lo hi : Float) (f : T (finite lo)) (g : T (finite hi)) (h : T (fits binary32 lo))
    (k : T (fits binary32 hi)) (o : lo ≼ hi) (s : T (finite (lo ⊕ hi))) where
  half-finite : T (finite half)
  unfolding of_bits
  half-finite = tt

  pub midpoint-between : (lo ≼ (lo ⊕ hi) ⊗ half) × ((lo ⊕ hi) ⊗ half ≼ hi)
  unfolding of_bits
  midpoint-between =
      let y = lo ⊕ hi in
      let v : T (fits binary32 y) = add-fits binary32 lo hi in
      let r = add_rounds binary32 lo hi f g in
      let D = mul-pos (den_pos lo) (den_pos hi) in
      let z = mul-rounds binary32 y half s half-finite in
      let E = mul-pos (den_pos y) (den_pos half) in
      let i = to-fraction f g o in
      let below = twice-below lo y f h s v r D (sum-above (num_pos lo) (num_neg lo) (den lo) (num_pos hi) (num_neg hi) (den hi) i) in
      let above = twice-above hi y g k s v r D (sum_below (num_pos lo) (num_neg lo) (den lo) (num_pos hi) (num_neg hi) (den hi) i) in (
        own_below lo (y ⊗ half) f h z E (halved (num_pos lo) (num_neg lo) (den lo) (num_pos y) (num_neg y) (den y) below),
        own-above hi (y ⊗ half) g k z E (halved' (num_pos hi) (num_neg hi) (den hi) (num_pos y) (num_neg y) (den y) above),
      )
    where
      sum-above : (p n d q m e : ℕ) → FractionLe p n d q m e → FractionLe (2 * p) (2 * n) d (p * e + q * d) (n * e + m * d) (d * e)
      sum-above p n d q m e l = omega (arith, mul-le-mul_right d l)

      sum_below : (p n d q m e : ℕ) → FractionLe p n d q m e → FractionLe (p * e + q * d) (n * e + m * d) (d * e) (2 * q) (2 * m) e
      sum_below p n d q m e l = omega (arith, mul-le-mul_right e l)

      halved : (p n d q m e : ℕ) → FractionLe (2 * p) (2 * n) d q m e → FractionLe p n d (q * 1 + m * 0) (q * 0 + m * 1) (e * 2)
      halved p n d q m e l = omega (arith, l)

      halved' : (p n d q m e : ℕ) → FractionLe q m e (2 * p) (2 * n) d → FractionLe (q * 1 + m * 0) (q * 0 + m * 1) (e * 2) p n d
      halved' p n d q m e l = omega (arith, l)
