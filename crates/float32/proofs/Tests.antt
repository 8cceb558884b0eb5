-- What a float's bits and tests in code say of it: `abs-bits`, `abs-nan`, the absolute value is the float without its sign's bit, or NaN;
-- `finite-below`, `finite-beyond`, a float is finite where it lies strictly between the two infinities. Rests on lib.Ieee alone.
use mathlib.Core.Path.{◌≡◌, refl, sym, ap, ◌∙◌}
use mathlib.Core.Bool.{true, false, not, true≢false}
use Prim.Native.Nat.{ℕ, zero, suc, ◌+◌, ◌%◌}
use native.Mathlib.Omega.{arith}
use lib.IntN.{ℤ}
use lib.Dec.{T}
use lib.Ieee.{Float, nan, inf, fin, binary32, lt, eq, ne, fits, is_nan, of_bits, to_bits, nan_bits}
use lib.Ieee.Bits.{of_bits-to_bits, to_bits-lt, nan_bits_is}
use lib.Ieee.Compare.{differs_from_itself}
use lib.Ieee.Scale.{finite}
use Rattle.float32.specs.Abs.{abs}

-- ---- a float without its sign

magnitude : (m : ℕ) (e : ℤ) → to_bits binary32 (fin true m e) ≡ 2147483648 + to_bits binary32 (fin false m e)
unfolding to_bits
magnitude m e = omega arith

-- the bits of x modulo the sign's weight are those of abs x
abs-to_bits : (x : Float) → T (fits binary32 x) → T (not (is_nan x)) → to_bits binary32 x % 2147483648 ≡ to_bits binary32 (abs x)
unfolding abs is_nan fits
abs-to_bits nan f h = absurd h
abs-to_bits (inf true) f h = unfold to_bits in refl
abs-to_bits (inf false) f h = unfold to_bits in refl
abs-to_bits (fin true m e) f h = omega (arith, magnitude m e, to_bits-lt binary32 (fin true m e) f)
abs-to_bits (fin false m e) f h = omega (arith, magnitude m e, to_bits-lt binary32 (fin true m e) (signed m e f))
  where
    signed : (m : ℕ) (e : ℤ) → T (fits binary32 (fin false m e)) → T (fits binary32 (fin true m e))
    signed zero e f = f
    signed (suc m) e f = f

abs-fits : (x : Float) → T (fits binary32 x) → T (fits binary32 (abs x))
unfolding abs fits
abs-fits nan f = f
abs-fits (inf s) f = f
abs-fits (fin s zero e) f = f
abs-fits (fin s (suc m) e) f = f

pub number-equal : (x : Float) → eq x x ≡ true → T (not (is_nan x))
unfolding eq is_nan
number-equal nan h = absurd (true≢false (sym h))
number-equal (inf s) h = tt
number-equal (fin s m e) h = tt

pub abs-bits : (x : Float) → fits binary32 x ≡ true → eq x x ≡ true → of_bits binary32 (to_bits binary32 x % 2147483648) ≡ abs x
abs-bits x f h =
    let t : T (fits binary32 x) = rw f tt in
    ap (of_bits binary32) (abs-to_bits x t (number-equal x h)) ∙ of_bits-to_bits binary32 (abs x) (abs-fits x t)

pub abs-bits-number : (x : Float) → fits binary32 x ≡ true → eq x x ≡ true → T (not (nan_bits binary32 (to_bits binary32 x % 2147483648)))
unfolding abs is_nan
abs-bits-number x f h = rw (nan_bits_is, abs-bits x f h) (abs-number x (number-equal x h))
  where
    abs-number : (x : Float) → T (not (is_nan x)) → T (not (is_nan (abs x)))
    abs-number nan h = h
    abs-number (inf s) h = h
    abs-number (fin s m e) h = h

pub abs-nan : (x : Float) → eq x x ≡ false → x ≡ abs x
unfolding abs ne
abs-nan x h = let e : x ≡ nan = differs_from_itself x (rw h tt) in rw e

-- ---- the infinities
pub finite-below : (x : Float) → lt x (inf false) ≡ true → lt (inf true) x ≡ finite x
unfolding lt
finite-below nan h = refl
finite-below (inf true) h = refl
finite-below (inf false) h = sym h
finite-below (fin s m e) h = refl

pub finite-beyond : (x : Float) → lt x (inf false) ≡ false → false ≡ finite x
unfolding lt
finite-beyond nan h = refl
finite-beyond (inf s) h = refl
finite-beyond (fin s m e) h = sym h
