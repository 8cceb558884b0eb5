-- A finite float as the fraction (num_pos x - num_neg x) / den x of natural numbers, one of the two numerators being 0: its order is
-- then an inequality of natural numbers, with no sign to go by. `FractionLe` is that order, `fraction-trans` its transitivity.
use mathlib.Core.Path.{◌≡◌, refl, sym}
use Prim.Native.Nat.{ℕ, ◌+◌, ◌*◌, ◌≤◌, ◌<◌}
use native.Mathlib.Nat.{le_of_mul-le-mul_right, mul-le-mul_right, mul-pos, zero-mul}
use native.Mathlib.Omega.{arith}
use mathlib.Core.Bool.{Bool, true, false}
use lib.Dec.{T, ltb→lt}
use lib.Ieee.{Float, nan, inf, fin, up}
use lib.Ieee.Fits.{up_pos}
use lib.Ieee.Positive.{positive}

-- ±a = pos_part s a - neg_part s a, s being the sign: true for minus.
abbrev pub pos_part : Bool → ℕ → ℕ
pos_part true a = 0
pos_part false a = a

abbrev pub neg_part : Bool → ℕ → ℕ
neg_part true a = a
neg_part false a = 0

-- The two numerators of a finite float; its denominator is lib.Ieee's `den`.
abbrev pub num_pos : Float → ℕ
num_pos nan = 0
num_pos (inf s) = 0
num_pos (fin s m e) = pos_part s (m * up e)

abbrev pub num_neg : Float → ℕ
num_neg nan = 0
num_neg (inf s) = 0
num_neg (fin s m e) = neg_part s (m * up e)

-- (p - n) / d ≤ (q - m) / e, for d and e above 0.
abbrev pub FractionLe : ℕ → ℕ → ℕ → ℕ → ℕ → ℕ → Type 0
FractionLe p n d q m e = p * e + m * d ≤ q * d + n * e

pub fraction-trans : (p n d q m e r l g : ℕ) → 0 < e → FractionLe p n d q m e → FractionLe q m e r l g → FractionLe p n d r l g
fraction-trans p n d q m e r l g E h k =
    let h' : (p * e + m * d) * g ≤ (q * d + n * e) * g = mul-le-mul_right g h in
    let k' : (q * g + l * e) * d ≤ (r * e + m * g) * d = mul-le-mul_right d k in
    let z : (p * g + l * d) * e ≤ (r * d + n * g) * e = omega arith in
    le_of_mul-le-mul_right z E

-- The parts of ±(a * c) are those of ±a times c.
pub pos_part-mul : (s : Bool) (a c : ℕ) → pos_part s (a * c) ≡ pos_part s a * c
pos_part-mul true a c = sym (zero-mul c)
pos_part-mul false a c = refl

pub neg_part-mul : (s : Bool) (a c : ℕ) → neg_part s (a * c) ≡ neg_part s a * c
neg_part-mul true a c = refl
neg_part-mul false a c = sym (zero-mul c)

-- A positive float has one numerator only.
pub num_pos-pos : (x : Float) → T (positive x) → 0 < num_pos x
num_pos-pos nan p = absurd p
num_pos-pos (inf s) p = absurd p
num_pos-pos (fin true m e) p = absurd p
num_pos-pos (fin false m e) p = mul-pos (ltb→lt 0 m p) (up_pos e)

pub num_neg-zero : (x : Float) → T (positive x) → num_neg x ≡ 0
num_neg-zero nan p = absurd p
num_neg-zero (inf s) p = absurd p
num_neg-zero (fin true m e) p = absurd p
num_neg-zero (fin false m e) p = refl
