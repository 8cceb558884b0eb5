-- `bits_of_float` is `to_bits`: a float that equals itself is no NaN, and any other is one.
use mathlib.Core.Path.{◌≡◌, subst, sym}
use mathlib.Core.Bool.{true, false, not}
use lib.Dec.{T}
use lib.Ieee.{Float, nan, inf, fin, binary32, is_nan, eq, ne, to_bits}
use lib.Ieee.Compare.{differs_from_itself}
use Rattle.hexadecimal.proofs.bits_of_float.Goals as goal

no_nan : (x : Float) → eq x x ≡ true → T (not (is_nan x))
unfolding eq is_nan
no_nan nan e = subst T (sym e) tt
no_nan (inf s) e = tt
no_nan (fin s m k) e = tt

nan-bits : (x : Float) → eq x x ≡ false → 2143289344 ≡ to_bits binary32 x
unfolding ne to_bits
nan-bits x e = rw (differs_from_itself x (rw e tt))

pub float_to_bits-result : goal.float_to_bits-result
float_to_bits-result c = no_nan c.args.x c.if-x.true

pub returns : goal.returns
returns c = record { value = nan-bits c.args.x c.if-x.false }
