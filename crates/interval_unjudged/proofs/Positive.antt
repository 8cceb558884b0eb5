-- A finite float above zero is positive, `above_zero`, and is finite, `positive-finite`; what has a positive root is positive, `rooted-positive`.
use mathlib.Core.Path.{◌≡◌, refl}
use mathlib.Core.Bool.{true, false}
use Prim.Native.Nat.{ℕ, zero, suc}
use native.Mathlib.Omega.{arith}
use lib.Dec.{T, lt→ltb}
use lib.Ieee.{Float, nan, inf, fin, binary32, of_bits, lt}
use lib.Ieee.Scale.{finite}
use lib.Ieee.Positive.{positive}
use Rattle.square_root.specs.SquareRoot.{sqrt}
use Rattle.square_root.proofs.Tests.{positive-tests}

pub above_zero : (x : Float) → T (finite x) → lt (of_bits binary32 0) x ≡ true → T (positive x)
unfolding lt of_bits
above_zero nan f h = absurd f
above_zero (inf s) f h = absurd f
above_zero (fin s m e) f h = positive-tests (fin s m e) h refl

pub positive-finite : (x : Float) → T (positive x) → T (finite x)
positive-finite nan p = p
positive-finite (inf s) p = p
positive-finite (fin s m e) p = tt

pub rooted-positive : (x : Float) → T (positive (sqrt binary32 x)) → T (positive x)
unfolding sqrt
rooted-positive nan p = p
rooted-positive (inf true) p = p
rooted-positive (inf false) p = p
rooted-positive (fin true zero e) p = p
rooted-positive (fin false zero e) p = p
rooted-positive (fin true (suc m) e) p = p
rooted-positive (fin false (suc m) e) p = lt→ltb 0 (suc m) (omega arith)
