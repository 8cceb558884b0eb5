-- Terms by the constants 0 and 1. Of floats: `add-zero`, `sub-zero`, `zero-add`, `one-mul`, `mul-one` for values of binary32, `zero-mul`, `mul-zero`
-- for finite floats; each is a fraction rounded, so that each is one equation of fractions (`rounds-alike`).
use mathlib.Core.Path.{◌≡◌, ap, ◌∙◌}
use Prim.Native.Nat.{ℕ, ◌+◌, ◌*◌, ◌<◌}
use native.Mathlib.Nat.{mul-pos}
use native.Mathlib.Omega.{arith}
use lib.Dec.{T}
use lib.Ieee.{Float, binary32, round, of_bits, fits}
use lib.Ieee.Scale.{finite}
use lib.Ieee.Positive.{den, den_pos}
use Rattle.own_rounding.proofs.rounding.Rational.{num_pos, num_neg}
use Rattle.own_rounding.proofs.rounding.Monotone.{Rounds, rounds-mono}
use Rattle.own_rounding.proofs.rounding.Arithmetic.{add_rounds, mul-rounds, mul-comm-finite}
use Rattle.own_rounding.specs.float32.Operators.{◌⊕◌, ◌⊖◌, ◌⊗◌, positive_zero, one}
use Rattle.own_rounding.proofs.float32.Constants.{zero-finite, one-finite, zero-rounds}
use Rattle.own_rounding.proofs.OwnRounding as own
use Rattle.own_rounding.specs.means.Alike.{Alike}

-- Roundings of equal fractions are alike.
pub rounds-alike : {z w : Float} {p n d q m e : ℕ} → Rounds binary32 z p n d → Rounds binary32 w q m e → 0 < d → 0 < e
    → p * e + m * d ≡ q * d + n * e → Alike z w
rounds-alike r s D E h = record { to = rounds-mono r s D E (omega arith); from = rounds-mono s r E D (omega arith) }

-- A rounding of x's own fraction, written otherwise.
own-alike : {z : Float} {p n d : ℕ} (x : Float) → T (finite x) → T (fits binary32 x)
    → Rounds binary32 z p n d → p ≡ num_pos x → n ≡ num_neg x → d ≡ den x → Alike z x
own-alike x f v r e g h =
    own.own-rounding x f v
    (record { sign = r.sign; size = r.size; is = r.is ∙ ap (round binary32 r.sign r.size) h; value = rw (← e, ← g) r.value })

module _ (x : Float) (f : T (finite x)) where
  module _ (v : T (fits binary32 x)) where
    pub add-zero : Alike (x ⊕ positive_zero) x
    add-zero = own.add-zero x f v

    pub sub-zero : Alike (x ⊖ positive_zero) x
    sub-zero = own.sub-zero x f v

    pub zero-add : Alike (positive_zero ⊕ x) x
    unfolding of_bits
    zero-add = own-alike x f v (add_rounds binary32 positive_zero x zero-finite f) (level (num_pos x) (den x)) (level (num_neg x) (den x)) (omega arith)
      where
        level : (p d : ℕ) → 0 * d + p * 1 ≡ p
        level p d = omega arith

    pub one-mul : Alike (one ⊗ x) x
    unfolding of_bits
    one-mul = own-alike x f v (mul-rounds binary32 one x one-finite f) (omega arith) (omega arith) (omega arith)

    pub mul-one : Alike (x ⊗ one) x
    mul-one = rw (mul-comm-finite binary32 x one f one-finite) one-mul

  pub zero-mul : Alike (positive_zero ⊗ x) positive_zero
  unfolding of_bits
  zero-mul =
      rounds-alike (mul-rounds binary32 positive_zero x zero-finite f) zero-rounds (mul-pos (den_pos positive_zero) (den_pos x)) (omega arith) (omega arith)

  pub mul-zero : Alike (x ⊗ positive_zero) positive_zero
  mul-zero = rw (mul-comm-finite binary32 x positive_zero f zero-finite) zero-mul
