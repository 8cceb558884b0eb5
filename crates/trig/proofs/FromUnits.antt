-- A whole number of units of 2 ^ -30 as the nearest float, by its two halves: each is a float exactly, and so is each scaled, so that the sum alone
-- is rounded (`from_halves`). `half-casts` says that a half can be cast.
use mathlib.Core.Path.{◌≡◌, refl, ap, ap₂, ◌∙◌}
use mathlib.Core.Bool.{false, true, true≢false}
use Prim.Native.Nat.{ℕ, suc, ◌+◌, ◌*◌, ◌/◌, ◌%◌, ◌^◌, ◌≤◌, ◌<◌}
use native.Mathlib.Nat.{le_trans, mul-pos, lt_of_lt_of_le, mul-lt-mul_of_pos_right, mul-le-mul_left}
use native.Mathlib.Omega.{arith}
use lib.IntN.{pos, negsuc}
use lib.Dec.{T, le→leb, lit≤}
use lib.Pow.{pow_pos, pow_mono}
use lib.Ieee.{Float, nan, inf, fin, binary32, up, down, round, add, mul, of_int, in_float, of_bits}
use lib.Ieee.Fits.{down_pos}
use lib.Ieee.Exact.{HasValue, round_exact}
use lib.Ieee.Scale.{round_same}
use lib.Ieee.Back.{round_whole}
use Rattle.float32.proofs.rounding.Arithmetic.{add_at}

pub half-casts : (a : ℕ) → a < 2 ^ 16 → T (in_float binary32 (pos a))
unfolding in_float
half-casts a h = le→leb a (2 ^ 24) (omega arith)

-- A whole number times 2 ^ -(k + 1).
scaled : (x : Float) (a k : ℕ) → HasValue x false a 1 → mul binary32 x (fin false 1 (negsuc k)) ≡ round binary32 false a (2 ^ suc k)
unfolding mul
scaled nan a k h = absurd h
scaled (inf s) a k h = absurd h
scaled (fin true m e) a k h = absurd (true≢false h.0)
scaled (fin false m e) a k h =
    round_same binary32 false (m * up e * (1 * 1)) (down e * 2 ^ suc k) a (2 ^ suc k) (mul-pos (down_pos e) (pow_pos (suc k))) (pow_pos (suc k))
    (cross (m * up e) (down e) (2 ^ suc k) a h.1)
  where
    cross : (n d P a : ℕ) → n * 1 ≡ a * d → n * (1 * 1) * P ≡ a * (d * P)
    cross n d P a h = let e : n * 1 * P ≡ a * d * P = ap (λ (z : ℕ). z * P) h in omega (arith, e)

-- A half over 2 ^ k, k being 30 at most.
exact : (a k j : ℕ) → a < 2 ^ 16 → j ≤ 149 → 2 ^ 149 ≡ 2 ^ j * 2 ^ k → HasValue (round binary32 false a (2 ^ k)) false a (2 ^ k)
exact a k j h l e =
    round_exact binary32 false a (2 ^ k) a j (pow_pos k) (lt_of_lt_of_le h (lit≤ tt))
    (lt_of_lt_of_le (mul-lt-mul_of_pos_right h (pow_pos j)) (small (2 ^ j) (power j l)))
    (ap (λ (z : ℕ). a * z) e ∙ regroup a (2 ^ j) (2 ^ k))
  where
    regroup : (a b c : ℕ) → a * (b * c) ≡ a * b * c
    regroup a b c = omega arith

    power : (j : ℕ) → j ≤ 149 → 2 ^ j ≤ 2 ^ 149
    power j l = pow_mono l

    small : (P : ℕ) → P ≤ 2 ^ 149 → 2 ^ 16 * P ≤ 2 ^ 277
    small P h = le_trans (mul-le-mul_left (2 ^ 16) h) (lit≤ tt)

cast-half : (a : ℕ) → a < 2 ^ 16 → HasValue (of_int binary32 (pos a)) false a 1
unfolding of_int
cast-half a h = round_whole binary32 false a (omega arith)

upper : of_bits binary32 0x38800000 ≡ fin false 1 (negsuc 13)
unfolding of_bits
upper = refl

lower : of_bits binary32 0x30800000 ≡ fin false 1 (negsuc 29)
unfolding of_bits
lower = refl

pub from_halves : (n : ℕ) → n < 2 ^ 32
    → add binary32 (mul binary32 (of_int binary32 (pos (n / 65536))) (of_bits binary32 0x38800000)) (mul binary32 (of_int binary32 (pos (n % 65536))) (of_bits binary32 0x30800000))
    ≡ round binary32 false n (2 ^ 30)
from_halves n h =
    let a = n / 65536 in
    let b = n % 65536 in
    let A : a < 2 ^ 16 = omega arith in
    let B : b < 2 ^ 16 = omega arith in
    let p : mul binary32 (of_int binary32 (pos a)) (of_bits binary32 0x38800000) ≡ round binary32 false a (2 ^ 14) =
    ap (λ (z : Float). mul binary32 (of_int binary32 (pos a)) z) upper ∙ scaled (of_int binary32 (pos a)) a 13 (cast-half a A) in
    let q : mul binary32 (of_int binary32 (pos b)) (of_bits binary32 0x30800000) ≡ round binary32 false b (2 ^ 30) =
    ap (λ (z : Float). mul binary32 (of_int binary32 (pos b)) z) lower ∙ scaled (of_int binary32 (pos b)) b 29 (cast-half b B) in
    ap₂ (add binary32) p q
    ∙ add_at binary32 (round binary32 false a (2 ^ 14)) (round binary32 false b (2 ^ 30)) a (2 ^ 14) b (2 ^ 30) (pow_pos 14) (pow_pos 30)
    (exact a 14 135 A (lit≤ tt) refl) (exact b 30 119 B (lit≤ tt) refl)
    ∙ round_same binary32 false (a * 2 ^ 30 + b * 2 ^ 14) (2 ^ 14 * 2 ^ 30) n (2 ^ 30) (mul-pos (pow_pos 14) (pow_pos 30)) (pow_pos 30) (omega arith)
