-- Sums and products of zeros of either sign and of ones: `zero-mul`, `mul-zero`, `zero-add-zero`, `one-mul-one`, `zero-add-one`, each the rounded value
-- of a fraction equal to 0/1 or 1/1, and equal fractions round alike (`round_same`). What `==` says of a zero and of one: `eq-zero`, `zero-eq`, `eq-one`.
use mathlib.Core.Path.{◌≡◌, refl, sym, ◌∙◌}
use mathlib.Core.Bool.{Bool, true, false, beq, ◌&&◌, ◌||◌, cond}
use Prim.Native.Nat.{ℕ, zero, suc, ◌+◌, ◌-◌, ◌*◌, ◌<◌}
use native.Mathlib.Nat as nat
use native.Mathlib.Omega.{arith}
use borrow.Author.Tests.{lt-ltb}
use lib.IntN.{ℤ, pos}
use lib.Dec.{T, eqb, eqb→eq, ltb}
use lib.Ieee.{Float, nan, inf, fin, binary32, of_bits, up, down, unlike, level, round, sum, add, mul, eq}
use lib.Ieee.Fits.{up_pos, down_pos, eq→eqb, and_i, and_l, and_r}
use lib.Ieee.Scale.{finite, round_same}
use Rattle.float32.specs.Operators.{◌⊕◌, ◌⊗◌, one}
use Rattle.matrix4x4.specs.Rows.{positive_zero}

-- a zero of either sign
pub data Zero : Float → Type 0 where
  signed : (s : Bool) (e : ℤ) → Zero (fin s 0 e)

pub zero-zero : Zero positive_zero
unfolding of_bits
zero-zero = signed false (pos 0)

-- the number 1, as m * 2 ^ e
pub data One : Float → Type 0 where
  scaled : (m : ℕ) (e : ℤ) → m * up e ≡ down e → One (fin false m e)

round-zero : (s : Bool) (n d : ℕ) → n ≡ 0 → 0 < d → round binary32 s n d ≡ fin s 0 (pos 0)
unfolding round
round-zero s n d e h = round_same binary32 s n d 0 1 h (omega arith) (omega arith) ∙ refl

round-one : (n d : ℕ) → n ≡ d → 0 < d → round binary32 false n d ≡ fin false 1 (pos 0)
unfolding round
round-one n d e h = round_same binary32 false n d 1 1 h (omega arith) (omega arith) ∙ refl

rounded-zero : (s : Bool) (n d : ℕ) → n ≡ 0 → 0 < d → Zero (round binary32 s n d)
rounded-zero s n d e h = rw (round-zero s n d e h) (signed s (pos 0))

pub zero-mul : {x : Float} (y : Float) → Zero x → T (finite y) → Zero (x ⊗ y)
unfolding mul
zero-mul nan z h = absurd h
zero-mul (inf t) z h = absurd h
zero-mul (fin t n d) (signed s e) h =
    rounded-zero (unlike s t) (0 * up e * (n * up d)) (down e * down d) (simp nat.zero-mul) (nat.mul-pos (down_pos e) (down_pos d))

pub mul-zero : (x : Float) {y : Float} → T (finite x) → Zero y → Zero (x ⊗ y)
unfolding mul
mul-zero nan h z = absurd h
mul-zero (inf t) h z = absurd h
mul-zero (fin s m e) h (signed t d) =
    rounded-zero (unlike s t) (m * up e * (0 * up d)) (down e * down d) (simp (nat.zero-mul, nat.mul-zero)) (nat.mul-pos (down_pos e) (down_pos d))

sum-zero : (s t : Bool) (a b c : ℕ) → a ≡ 0 → b ≡ 0 → 0 < c → Zero (sum binary32 s a t b c)
unfolding sum
sum-zero s t a b c p q h =
    either (beq s t) (rounded-zero s (a + b) c (omega arith) h)
    (either (ltb a b) (rounded-zero t (b - a) c (omega arith) h) (rounded-zero (s && ltb b a) (a - b) c (omega arith) h))
  where
    either : (b : Bool) {x y : Float} → Zero x → Zero y → Zero (cond b x y)
    either true z w = z
    either false z w = w

pub zero-add-zero : {x y : Float} → Zero x → Zero y → Zero (x ⊕ y)
unfolding add
zero-add-zero (signed s e) (signed t d) =
    sum-zero s t (0 * up e * down d) (0 * up d * down e) (down e * down d) (simp nat.zero-mul) (simp nat.zero-mul) (nat.mul-pos (down_pos e) (down_pos d))

pub one-mul-one : {x y : Float} → One x → One y → x ⊗ y ≡ one
unfolding mul of_bits
one-mul-one (scaled m e a) (scaled n d b) =
    round-one (m * up e * (n * up d)) (down e * down d) (rw (a, b)) (nat.mul-pos (down_pos e) (down_pos d))

sum_one : (s : Bool) (c : ℕ) → 0 < c → sum binary32 s 0 false c c ≡ one
unfolding sum of_bits
sum_one false c h = rw (nat.zero-add c) (round-one c c refl h)
sum_one true c h = rw (lt-ltb 0 c h, nat.sub-zero c) (round-one c c refl h)

pub zero-add-one : {x y : Float} → Zero x → One y → x ⊕ y ≡ one
unfolding add
zero-add-one (signed s e) (scaled n d v) =
    rw (nat.zero-mul (up e), nat.zero-mul (down d), v, nat.mul_comm (down d) (down e)) (sum_one s (down e * down d) (nat.mul-pos (down_pos e) (down_pos d)))

-- ---- what a comparison says
level-same : (s t : Bool) (a b : ℕ) → T (level s a t b) → a ≡ b
level-same s t a b h = eqb→eq a b (and_l (eqb a b) (beq s t || eqb a 0) h)

pub eq-zero : (x : Float) → T (eq x positive_zero) → Zero x
unfolding eq of_bits
eq-zero nan h = absurd h
eq-zero (inf s) h = absurd h
eq-zero (fin s zero e) h = signed s e
eq-zero (fin s (suc m) e) h =
    absurd (omega (arith, level-same s false (suc m * up e * 1) (0 * down e) h, nat.mul-pos (nat.zero-lt-suc m) (up_pos e)))

pub zero-eq : {x : Float} → Zero x → T (eq x positive_zero)
unfolding eq of_bits
zero-eq (signed s e) = go s (0 * up e * 1) (0 * down e) (simp nat.zero-mul) (simp nat.zero-mul)
  where
    go : (s : Bool) (a b : ℕ) → a ≡ 0 → b ≡ 0 → T (level s a false b)
    go true a b p q = and_i (eqb a b) (eqb a 0) (eq→eqb (p ∙ sym q)) (eq→eqb p)
    go false a b p q = and_i (eqb a b) true (eq→eqb (p ∙ sym q)) tt

pub one-one : One one
unfolding of_bits
one-one = scaled 1 (pos 0) refl

pub one-finite : {x : Float} → One x → T (finite x)
one-finite (scaled m e h) = tt

pub eq-one : (x : Float) → T (eq x one) → One x
unfolding eq of_bits
eq-one nan h = absurd h
eq-one (inf s) h = absurd h
eq-one (fin true m e) h =
    let z = eqb→eq (m * up e * 1) 0 (and_r (eqb (m * up e * 1) (1 * down e)) (eqb (m * up e * 1) 0) h) in
    absurd (omega (arith, level-same true false (m * up e * 1) (1 * down e) h, down_pos e))
eq-one (fin false m e) h = scaled m e (omega (arith, level-same false false (m * up e * 1) (1 * down e) h))
