-- Twice a binary32 number below 2^127 is exact (`double-value`), so that 2.0 * theta * t and 2.0 * t * theta are the same float where both double:
-- `angles-same`.
use mathlib.Core.Path.{◌≡◌, refl, sym, ap, subst, ◌∙◌}
use mathlib.Core.Bool.{Bool, true, false, true≢false}
use Prim.Native.Nat.{ℕ, suc, ◌*◌, ◌^◌, ◌<◌}
use native.Mathlib.Nat.{mul-pos, mul-lt-mul_of_pos_right, lt_of_mul-lt-mul_right, pow-succ'}
use native.Mathlib.Omega.{arith}
use borrow.Author.Tests.{ltb-true}
use lib.IntN.{ℤ}
use lib.Dec.{T}
use lib.Pow.{pow_pos}
use lib.Ieee.{Float, nan, inf, fin, binary32, up, down, unlike, round, mul, lt, of_bits, fits}
use lib.Ieee.Fits.{down_pos}
use lib.Ieee.Exact.{HasValue, round_exact}
use lib.Ieee.Scale.{round_same}
use Rattle.zero_search.specs.float32.Abs.{abs}
use Rattle.zero_search.specs.float32.Operators.{◌⊗◌, two}
use Rattle.zero_search.specs.float_bits.Decode.{integer_decode}
use Rattle.zero_search.proofs.float_bits.Decode.{decode-value, significand-lt}
use Rattle.search_range.specs.Far.{Doubles}

-- N units of 1 / L are A / D, which is below M.
units-below : (N A D L M : ℕ) → 0 < L → A * L ≡ N * D → A < M * D → N < M * L
units-below N A D L M l e h =
    let k : A * L < M * D * L = mul-lt-mul_of_pos_right h l in
    lt_of_mul-lt-mul_right D (let g : N * D < M * L * D = omega (arith, e, k) in g)

twice-below : (q j K : ℕ) → q * 2 ^ j < K → q * 2 ^ suc j < 2 * K
twice-below q j K h = let p = ap (λ (x : ℕ). q * x) (pow-succ' 2 j) in omega (arith, p, h)

twice-units : (q j A D L : ℕ) → A * L ≡ q * 2 ^ j * D → 2 * A * L ≡ q * 2 ^ suc j * (1 * D)
twice-units q j A D L h = let p = ap (λ (x : ℕ). q * x * D) (pow-succ' 2 j) in omega (arith, p, h)

-- 2^127 * 2^149, twice.
top : 2 * (2 ^ 127 * 2 ^ 149) ≡ 2 ^ 277
top = refl

below-limit : (s : Bool) (m : ℕ) (e : ℤ) → Doubles (fin s m e) → m * up e < 2 ^ 127 * down e
unfolding lt abs of_bits
below-limit s m e h = clear (m * up e) (2 ^ 127) (down e) (ltb-true (m * up e * 1) (1 * 2 ^ 127 * down e) h)
  where
    clear : (a k d : ℕ) → a * 1 < 1 * k * d → a < k * d
    clear a k d h = omega arith

double-value : (s : Bool) (m : ℕ) (e : ℤ) → T (fits binary32 (fin s m e)) → Doubles (fin s m e) → HasValue (two ⊗ fin s m e) s (2 * (m * up e)) (1 * down e)
double-value s m e f h =
    let x = fin s m e in
    let q = (integer_decode x).significand in
    let j = (integer_decode x).exponent in
    let v : m * up e * 2 ^ 149 ≡ q * 2 ^ j * down e = (decode-value x f tt).1 in
    let small = units-below (q * 2 ^ j) (m * up e) (down e) (2 ^ 149) (2 ^ 127) (pow_pos 149) v (below-limit s m e h) in
    go s (round_exact binary32 s (2 * (m * up e)) (1 * down e) q (suc j) (one-pos (down e) (down_pos e)) (significand-lt x)
    (subst (λ (k : ℕ). q * 2 ^ suc j < k) top (twice-below q j (2 ^ 127 * 2 ^ 149) small)) (twice-units q j (m * up e) (down e) (2 ^ 149) v))
  where
    one-pos : (d : ℕ) → 0 < d → 0 < 1 * d
    one-pos d h = omega arith

    go : (s : Bool) → HasValue (round binary32 s (2 * (m * up e)) (1 * down e)) s (2 * (m * up e)) (1 * down e)
        → HasValue (two ⊗ fin s m e) s (2 * (m * up e)) (1 * down e)
    go true v = unfold mul of_bits in v
    go false v = unfold mul of_bits in v

-- A product by a value's own fraction.
mul-value : (x : Float) (s : Bool) (a c : ℕ) (t : Bool) (n : ℕ) (d : ℤ) → 0 < c → HasValue x s a c
    → x ⊗ fin t n d ≡ round binary32 (unlike s t) (a * (n * up d)) (c * down d)
unfolding mul
mul-value nan s a c t n d C v = absurd v
mul-value (inf r) s a c t n d C v = absurd v
mul-value (fin r m e) s a c t n d C v =
    ap (λ (b : Bool). round binary32 (unlike b t) (m * up e * (n * up d)) (down e * down d)) v.0
    ∙ round_same binary32 (unlike s t) (m * up e * (n * up d)) (down e * down d) (a * (n * up d)) (c * down d)
    (mul-pos (down_pos e) (down_pos d)) (mul-pos C (down_pos d)) (cross (m * up e) c a (down e) (n * up d) (down d) v.1)
  where
    cross : (P c a E N D : ℕ) → P * c ≡ a * E → P * N * (c * D) ≡ a * N * (E * D)
    cross P c a E N D h = let k = ap (λ (x : ℕ). x * (N * D)) h in omega (arith, k)

unlike-comm : (s t : Bool) → unlike s t ≡ unlike t s
unlike-comm true true = refl
unlike-comm true false = refl
unlike-comm false true = refl
unlike-comm false false = refl

pub angles-same : (x y : Float) → T (fits binary32 x) → Doubles x → T (fits binary32 y) → Doubles y → two ⊗ x ⊗ y ≡ two ⊗ y ⊗ x
unfolding lt abs of_bits
angles-same nan y fx dx fy dy = absurd (true≢false (sym dx))
angles-same (inf s) y fx dx fy dy = absurd (true≢false (sym dx))
angles-same (fin s m e) nan fx dx fy dy = absurd (true≢false (sym dy))
angles-same (fin s m e) (inf t) fx dx fy dy = absurd (true≢false (sym dy))
angles-same (fin s m e) (fin t n d) fx dx fy dy =
    mul-value (two ⊗ fin s m e) s (2 * (m * up e)) (1 * down e) t n d (pos-one (down e) (down_pos e)) (double-value s m e fx dx)
    ∙ ap (λ (b : Bool). round binary32 b (2 * (m * up e) * (n * up d)) (1 * down e * down d)) (unlike-comm s t)
    ∙ round_same binary32 (unlike t s) (2 * (m * up e) * (n * up d)) (1 * down e * down d) (2 * (n * up d) * (m * up e)) (1 * down d * down e)
    (pos-two (down e) (down d) (down_pos e) (down_pos d)) (pos-two (down d) (down e) (down_pos d) (down_pos e)) (swap (m * up e) (n * up d) (down e) (down d))
    ∙ sym (mul-value (two ⊗ fin t n d) t (2 * (n * up d)) (1 * down d) s m e (pos-one (down d) (down_pos d)) (double-value t n d fy dy))
  where
    pos-one : (d : ℕ) → 0 < d → 0 < 1 * d
    pos-one d h = omega arith

    pos-two : (d e : ℕ) → 0 < d → 0 < e → 0 < 1 * d * e
    pos-two d e h k = mul-pos (pos-one d h) k

    swap : (a b c d : ℕ) → 2 * a * b * (1 * d * c) ≡ 2 * b * a * (1 * c * d)
    swap a b c d = omega arith
