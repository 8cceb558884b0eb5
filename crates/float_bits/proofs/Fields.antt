-- The bits of a float, read as sign, exponent's field and digits, give its parts: `decode-infinite` (a field of all ones), `decode-subnormal` (a field of 0),
-- `decode-normal` (any other), and `decode-nan` beside them. Rests on the bits being exponent * 2 ^ 23 + significand under the sign (`finite-bits`),
-- and on the bounds of `Decode`.
use mathlib.Core.Path.{◌≡◌, refl, sym, subst}
use mathlib.Core.Logic.{inl, inr}
use mathlib.Core.Bool.{Bool, true, false, cond, true≢false}
use Prim.Native.Nat.{ℕ, ◌+◌, ◌-◌, ◌*◌, ◌/◌, ◌%◌, ◌^◌, ◌≤◌, ◌<◌}
use native.Mathlib.Omega.{arith}
use lib.IntN.{ℤ}
use lib.Dec.{T, leb}
use borrow.Author.Tests.{le-leb, lt-leb}
use lib.Ieee.{Float, nan, inf, fin, binary32, size, hid, top, is_nan, ne, fits, to_bits}
use Rattle.float_bits.specs.declared.Decoded.{Decoded}
use Rattle.float_bits.specs.Decode.{negative, magnitude, exponent, integer_decode}
use Rattle.float_bits.proofs.Decode.{significand-lt, significand-normal, exponent-le}

abbrev pub sign : ℕ → Bool
sign b = leb (top binary32) b

abbrev pub field : ℕ → ℕ
field b = b % top binary32 / hid binary32

abbrev pub digits : ℕ → ℕ
digits b = b % hid binary32

decoded-eq : {n n' : Bool} {s s' e e' : ℕ} → n ≡ n' → s ≡ s' → e ≡ e'
    → ◌≡◌ {A = Decoded} (record { negative = n; significand = s; exponent = e }) (record { negative = n'; significand = s'; exponent = e' })
decoded-eq p q r = rw (p, q, r)

-- ---- the bits of a finite float: the exponent is at most 253, and the significand has 24 digits at most
abbrev pattern : Bool → ℕ → ℕ → ℕ
pattern s k q = cond s (top binary32) 0 + k * hid binary32 + q

sign_read : (s : Bool) (k q : ℕ) → k ≤ 253 → q < 2 ^ 24 → sign (pattern s k q) ≡ s
sign_read true k q K Q = le-leb (top binary32) (pattern true k q) (omega arith)
sign_read false k q K Q = lt-leb (top binary32) (pattern false k q) (omega arith)

field-read : (s : Bool) (k q : ℕ) → k ≤ 253 → q < 2 ^ 24 → field (pattern s k q) ≡ k + q / hid binary32
field-read true k q K Q = omega arith
field-read false k q K Q = omega arith

digits-read : (s : Bool) (k q : ℕ) → digits (pattern s k q) ≡ digits q
digits-read true k q = omega arith
digits-read false k q = omega arith

module _ (s : Bool) (m : ℕ) (e : ℤ) (f : fits binary32 (fin s m e) ≡ true) where
  abbrev b : ℕ
  b = to_bits binary32 (fin s m e)

  abbrev k : ℕ
  k = (integer_decode (fin s m e)).exponent

  abbrev q : ℕ
  q = (integer_decode (fin s m e)).significand

  k-le : k ≤ 253
  k-le = exponent-le (fin s m e) (subst T (sym f) tt)

  q-lt : q < 2 ^ 24
  q-lt = significand-lt (fin s m e)

  finite-bits : b ≡ pattern s k q
  unfolding to_bits integer_decode exponent magnitude
  finite-bits = refl

  sign-is : sign b ≡ (integer_decode (fin s m e)).negative
  unfolding integer_decode negative
  sign-is = rw finite-bits (sign_read s k q k-le q-lt)

  field_is : field b ≡ k + q / hid binary32
  field_is = rw finite-bits (field-read s k q k-le q-lt)

  digits-is : digits b ≡ digits q
  digits-is = rw finite-bits (digits-read s k q)

  not_infinite : field b ≡ 255 → ⊥
  not_infinite h = omega (arith, field_is, k-le, q-lt)

  subnormal : field b ≡ 0 → record { negative = sign b; significand = digits b; exponent = 0 } ≡ integer_decode (fin s m e)
  subnormal h = decoded-eq sign-is (omega (arith, field_is, digits-is)) (omega (arith, field_is))

  normal : (field b ≡ 0 → ⊥) → record { negative = sign b; significand = hid binary32 + digits b; exponent = field b - 1 } ≡ integer_decode (fin s m e)
  normal h = elim (significand-normal (fin s m e)) [
    | inl z ↦ decoded-eq sign-is (omega (arith, field_is, digits-is, q-lt)) (omega (arith, field_is, q-lt))
    | inr l ↦ decoded-eq sign-is (omega (arith, field_is, digits-is, q-lt)) (omega (arith, field_is, q-lt))
  ]

-- ---- each field
pub decode-nan : (x : Float) → is_nan x ≡ true → record { negative = false; significand = 0; exponent = 0 } ≡ integer_decode x
unfolding is_nan integer_decode negative exponent magnitude size
decode-nan nan h = refl
decode-nan (inf s) h = absurd (true≢false (sym h))
decode-nan (fin s m e) h = absurd (true≢false (sym h))

pub decode-infinite : (x : Float) → fits binary32 x ≡ true → ne x x ≡ false → field (to_bits binary32 x) ≡ 255
    → record { negative = sign (to_bits binary32 x); significand = 0; exponent = 0 } ≡ integer_decode x
unfolding ne
decode-infinite nan f n h = absurd (true≢false n)
decode-infinite (inf true) f n h = unfold to_bits integer_decode negative exponent magnitude size in refl
decode-infinite (inf false) f n h = unfold to_bits integer_decode negative exponent magnitude size in refl
decode-infinite (fin s m e) f n h = absurd (not_infinite s m e f h)

infinite-field : (s : Bool) → field (to_bits binary32 (inf s)) ≡ 255
unfolding to_bits
infinite-field true = refl
infinite-field false = refl

pub decode-subnormal : (x : Float) → fits binary32 x ≡ true → ne x x ≡ false → field (to_bits binary32 x) ≡ 0
    → record { negative = sign (to_bits binary32 x); significand = digits (to_bits binary32 x); exponent = 0 } ≡ integer_decode x
unfolding ne
decode-subnormal nan f n h = absurd (true≢false n)
decode-subnormal (inf s) f n h = absurd (omega (arith, infinite-field s, h))
decode-subnormal (fin s m e) f n h = subnormal s m e f h

pub decode-normal : (x : Float) → fits binary32 x ≡ true → ne x x ≡ false → (field (to_bits binary32 x) ≡ 255 → ⊥) → (field (to_bits binary32 x) ≡ 0 → ⊥)
    → record { negative = sign (to_bits binary32 x); significand = hid binary32 + digits (to_bits binary32 x); exponent = field (to_bits binary32 x) - 1 }
    ≡ integer_decode x
unfolding ne
decode-normal nan f n g h = absurd (true≢false n)
decode-normal (inf s) f n g h = absurd (g (infinite-field s))
decode-normal (fin s m e) f n g h = normal s m e f h
