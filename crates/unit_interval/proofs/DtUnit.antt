-- The parameter dt of a time between the two end times is a float from 0 to 1: `dt-unit`. The difference of two floats is not zero unless they are equal,
-- since the least positive float divides every float (`sub-positive`); the rest is monotone rounding (`div-unit`).
use mathlib.Core.Path.{◌≡◌, refl, sym, ap}
use mathlib.Core.Bool.{Bool, true, false, not}
use Prim.Native.Nat.{ℕ, ◌+◌, ◌*◌, ◌^◌, ◌≤◌, ◌<◌}
use native.Mathlib.Nat.{zero-lt-suc, mul-pos, mul-le-mul_right, mul-lt-mul_of_pos_right, lt_of_mul-lt-mul_right, zero-mul}
use native.Mathlib.Omega.{arith}
use lib.Dec.{T, ltb→lt}
use lib.Pow.{pow_pos}
use lib.Ieee.{Float, nan, inf, fin, binary32, up, down, round, lt, of_bits, fits}
use lib.Ieee.Exact.{HasValue}
use lib.Ieee.Scale.{finite}
use lib.Ieee.Positive.{positive, positive-finite, den, den_pos}
use Rattle.interval.specs.rounding.Order.{◌≼◌}
use Rattle.interval.proofs.rounding.Rational.{num_pos, num_neg, num_pos-pos, FractionLe}
use Rattle.interval.proofs.rounding.Order.{≼_refl, ≼_trans, finite_number, to-fraction, num_neg-none, between-finite, above-positive, lt-≼, not-lt-≼}
use Rattle.interval.proofs.rounding.Monotone.{Rounds, rounds-mono}
use Rattle.interval.proofs.rounding.Arithmetic.{sub-rounds, sub-mono, div-rounds, div_mono}
use Rattle.interval.specs.float32.Operators.{◌⊖◌, ◌⊘◌}
use Rattle.interval.proofs.float32.Constants.{zero-finite, zero-rounds, one-rounds}
use Rattle.interval.specs.float_bits.Decode.{integer_decode}
use Rattle.interval.proofs.float_bits.Decode.{decode-value}
use Rattle.interval.specs.Contains.{Contains}
use Rattle.unit_interval.specs.Unit.{unit_interval, dt}

abbrev pub +0 : Float
+0 = of_bits binary32 0

-- ---- quotients from 0 to 1
pub div-unit : {x y : Float} → T (finite x) → T (positive y) → +0 ≼ x → x ≼ y → Contains unit_interval (x ⊘ y)
div-unit {x} {y} f p z h =
    let g = positive-finite y p in
    let P = num_pos-pos y p in
    record {
      low = rounds-mono zero-rounds (div-rounds binary32 x y f p) (zero-lt-suc 0) (mul-pos P (den_pos x))
          (above (num_pos x) (num_neg x) (num_pos y * den x) (den y) (num_neg-none x f z));
      high = ≼_trans (div_mono binary32 y f g p h)
          (rounds-mono (div-rounds binary32 y y g p) one-rounds (mul-pos P (den_pos y)) (zero-lt-suc 0) (below (num_pos y) (num_neg y) (den y)));
    }
  where
    above : (p n d e : ℕ) → n ≡ 0 → FractionLe 0 0 1 (p * e) (n * e) d
    above p n d e h = rw h (omega arith)

    below : (p n d : ℕ) → FractionLe (p * d) (n * d) (p * d) 1 0 1
    below p n d = omega arith

-- ---- a float is a whole number of units of the least positive float, 2 ^ -149
record WholeUnits (x : Float) : Type 0 where
  positives : ℕ
  negatives : ℕ
  pos-is : num_pos x * 2 ^ 149 ≡ positives * den x
  neg_is : num_neg x * 2 ^ 149 ≡ negatives * den x

whole-units : (x : Float) → T (finite x) → T (fits binary32 x) → WholeUnits x
whole-units x f h = go x (integer_decode x).negative ((integer_decode x).significand * 2 ^ (integer_decode x).exponent) (decode-value x h f)
  where
    go : (x : Float) (s : Bool) (n : ℕ) → HasValue x s n (2 ^ 149) → WholeUnits x
    go nan s n v = absurd v
    go (inf t) s n v = absurd v
    go (fin true m e) s n v = record { positives = 0; negatives = n; pos-is = sym (zero-mul (down e)); neg_is = v.1 }
    go (fin false m e) s n v = record { positives = n; negatives = 0; pos-is = v.1; neg_is = sym (zero-mul (down e)) }

-- ---- the difference of two floats
lt-fraction : (x y : Float) → T (finite x) → T (finite y) → T (lt x y) → num_pos x * den y + num_neg y * den x < num_pos y * den x + num_neg x * den y
unfolding lt
lt-fraction nan y f g h = absurd f
lt-fraction (inf s) y f g h = absurd f
lt-fraction (fin s m e) nan f g h = absurd g
lt-fraction (fin s m e) (inf t) f g h = absurd g
lt-fraction (fin false m e) (fin false n d) f g h = let l = ltb→lt (m * up e * down d) (n * up d * down e) h in omega (arith, l)
lt-fraction (fin false m e) (fin true n d) f g h = absurd h
lt-fraction (fin true m e) (fin false n d) f g h = let l = ltb→lt 0 (m * up e * down d + n * up d * down e) h in omega (arith, l)
lt-fraction (fin true m e) (fin true n d) f g h = let l = ltb→lt (n * up d * down e) (m * up e * down d) h in omega (arith, l)

least : Float
least = round binary32 false 1 (2 ^ 149)

least-positive : T (positive least)
unfolding least round
least-positive = tt

least-rounds : Rounds binary32 least 1 0 (2 ^ 149)
unfolding least
least-rounds = record { sign = false; size = 1; is = refl; value = refl }

-- p / d < q / e, all of them multiples of 1 / L.
apart : (p n d q m e L P N Q M : ℕ) → 0 < L → p * L ≡ P * d → n * L ≡ N * d → q * L ≡ Q * e → m * L ≡ M * e → p * e + m * d < q * d + n * e
    → FractionLe 1 0 L (q * d + n * e) (m * d + p * e) (e * d)
apart p n d q m e L P N Q M l a b c g h =
    let u : (q * d + n * e) * L ≡ (Q + N) * (e * d) = both q d n e L Q N c b in
    let v : (m * d + p * e) * L ≡ (M + P) * (e * d) = both m d p e L M P g a in
    let k : (m * d + p * e) * L < (q * d + n * e) * L = mul-lt-mul_of_pos_right (omega arith) l in
    let j : M + P < Q + N = lt_of_mul-lt-mul_right (e * d) (rw (u, v) at k) in
    let i : (M + P + 1) * (e * d) ≤ (Q + N) * (e * d) = mul-le-mul_right (e * d) (omega arith) in
    omega arith
  where
    both : (x d y e L X Y : ℕ) → x * L ≡ X * e → y * L ≡ Y * d → (x * d + y * e) * L ≡ (X + Y) * (e * d)
    both x d y e L X Y a b = let a' = ap (λ (z : ℕ). z * d) a in let b' = ap (λ (z : ℕ). z * e) b in omega arith

pub sub-positive : (x y : Float) → T (finite x) → T (fits binary32 x) → T (finite y) → T (fits binary32 y)
    → T (lt x y) → T (finite (y ⊖ x)) → T (positive (y ⊖ x))
sub-positive x y f F g G h k =
    let X = whole-units x f F in
    let Y = whole-units y g G in
    above-positive {lo = least} least-positive k
    (rounds-mono least-rounds (sub-rounds binary32 y x g f) (pow_pos 149) (mul-pos (den_pos y) (den_pos x))
    (apart (num_pos x) (num_neg x) (den x) (num_pos y) (num_neg y) (den y) (2 ^ 149) X.positives X.negatives Y.positives Y.negatives (pow_pos 149)
    X.pos-is X.neg_is Y.pos-is Y.neg_is (lt-fraction x y f g h)))

-- The difference of a float and one that is no greater.
pub sub-nonnegative : {x y : Float} → T (finite x) → T (finite y) → x ≼ y → +0 ≼ y ⊖ x
sub-nonnegative {x} {y} f g h =
    rounds-mono zero-rounds (sub-rounds binary32 y x g f) (zero-lt-suc 0) (mul-pos (den_pos y) (den_pos x))
    (level (num_pos x) (num_neg x) (den x) (num_pos y) (num_neg y) (den y) (to-fraction f g h))
  where
    level : (p n d q m e : ℕ) → FractionLe p n d q m e → FractionLe 0 0 1 (q * d + n * e) (m * d + p * e) (e * d)
    level p n d q m e h = omega arith

-- ---- dt
lt-not-≼ : (x y : Float) → T (finite x) → T (finite y) → T (lt x y) → y ≼ x → ⊥
lt-not-≼ x y f g h k = let a = lt-fraction x y f g h in let b = to-fraction g f k in omega arith

lt_trans : (x y z : Float) → T (finite x) → T (finite y) → T (finite z) → T (lt x y) → T (lt y z) → T (lt x z)
lt_trans x y z f g i h k = go (lt x z) (λ n. lt-not-≼ x y f g h (≼_trans (lt-≼ y z k) (not-lt-≼ z x (finite_number z i) (finite_number x f) n)))
  where
    go : (b : Bool) → (T (not b) → ⊥) → T b
    go true n = tt
    go false n = n tt

pub dt-unit : (start end time : Float) → T (finite start) → T (fits binary32 start) → T (finite end) → T (fits binary32 end)
    → T (finite (end ⊖ start))
    → T (lt start time) → T (lt time end) → Contains unit_interval (dt start end time)
unfolding dt
dt-unit start end time s S e E d h k =
    let a = lt-≼ start time h in
    let b = lt-≼ time end k in
    let t = between-finite s e a b in
    let P = sub-positive start end s S e E (lt_trans start time end s t e h k) d in
    let low = sub-nonnegative s t a in
    let high = sub-mono binary32 t e s s b (≼_refl start (finite_number start s)) in
    div-unit (between-finite zero-finite d low high) P low high
