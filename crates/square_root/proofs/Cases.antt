-- The definition computed: bit patterns of binary32 and those of their square roots, as hardware gives them (`sqrt-cases`).
use mathlib.Core.List.{List, [], ◌∷◌}
use mathlib.Core.Bool.{Bool, true, ◌&&◌}
use Prim.Native.Nat.{ℕ}
use lib.Dec.{T, eqb}
use lib.Ieee.{binary32, of_bits, to_bits, round}
use Rattle.square_root.specs.SquareRoot.{isqrt_below, isqrt, sticky_sqrt, round_sqrt, sqrt}

data Case : Type 0 where
  case : ℕ → ℕ → Case

right : Case → Bool
right (case x r) = eqb (to_bits binary32 (sqrt binary32 (of_bits binary32 x))) r

all_right : List Case → Bool
all_right [] = true
all_right (c ∷ l) = right c && all_right l

cases : List Case
cases =
    -- 1, 2, 3 and 9
    case 0x3f800000 0x3f800000
    ∷ case 0x40000000 0x3fb504f3
    ∷ case 0x40400000 0x3fddb3d7
    ∷ case 0x41100000 0x40400000
    -- the neighbours of 1: the root of the one above lies just below a midpoint
    ∷ case 0x3f7fffff 0x3f7fffff
    ∷ case 0x3f800001 0x3f800000
    -- the least three values, the largest subnormal value, the least normal one and its neighbour
    ∷ case 0x00000001 0x1a3504f3
    ∷ case 0x00000002 0x1a800000
    ∷ case 0x00000003 0x1a9cc471
    ∷ case 0x007fffff 0x1fffffff
    ∷ case 0x00800000 0x20000000
    ∷ case 0x00800001 0x20000000
    -- the largest value
    ∷ case 0x7f7fffff 0x5f7fffff
    -- +0, -0, +infinity
    ∷ case 0x00000000 0x00000000
    ∷ case 0x80000000 0x80000000
    ∷ case 0x7f800000 0x7f800000
    -- -infinity, NaN, -1 and the largest value below zero: NaN
    ∷ case 0xff800000 0x7fc00000
    ∷ case 0x7fc00000 0x7fc00000
    ∷ case 0xbf800000 0x7fc00000
    ∷ case 0x80000001 0x7fc00000
    ∷ []

sqrt-cases : T (all_right cases)
unfolding all_right right cases sqrt round_sqrt sticky_sqrt isqrt isqrt_below round of_bits to_bits
sqrt-cases = tt
