-- `float_of_bits` is `of_bits`: the test is `nan_bits` by one comparison, and 0/0 is NaN.
use Prim.Native.Nat.{ℕ, ◌≤◌, ◌%◌}
use mathlib.Core.Path.{◌≡◌, refl, sym, ◌∙◌}
use mathlib.Core.Bool.{true, not, false≢true}
use lib.Dec.{T}
use lib.Ieee.{Float, nan, inf, fin, binary32, is_nan, nan_bits, of_bits, div}
use lib.Ieee.Bits.{nan_bits_above, nan_bits_is}
use borrow.Author.Tests.{le-ltb, lt-ltb}
use Rattle.hexadecimal.proofs.float_of_bits.Goals as goal

no_nan : (n : ℕ) → n % 2147483648 ≤ 2139095040 → T (not (nan_bits binary32 n))
no_nan n h = rw (nan_bits_above binary32 n, le-ltb _ _ h) tt

only_nan : (x : Float) → is_nan x ≡ true → nan ≡ x
unfolding is_nan
only_nan nan e = refl
only_nan (inf s) e = absurd (false≢true e)
only_nan (fin s m k) e = absurd (false≢true e)

zero-quotient : div binary32 (of_bits binary32 0) (of_bits binary32 0) ≡ nan
unfolding div of_bits
zero-quotient = refl

pub float_from_bits-result : goal.float_from_bits-result
float_from_bits-result c = no_nan c.args.n c.if-n-le2139095040.true

pub returns : goal.returns
returns c = record {
  value = zero-quotient
      ∙ only_nan (of_bits binary32 c.args.n)
      (sym (nan_bits_is binary32 c.args.n) ∙ nan_bits_above binary32 c.args.n ∙ lt-ltb _ _ c.if-n-le2139095040.false);
}
