-- The square root of a float: document 01, "Numbers (added)", "square root rounded to nearest-even, NaN below zero".
-- `isqrt` is the whole part of a natural number's root, `round_sqrt` the value of a format nearest to the root of a fraction, `sqrt` the operation on floats.
-- Document 01 leaves two choices open, taken here as in IEEE 754: the root of a zero is that same zero, and the root of +infinity is +infinity.
use Rattle.std.specs.Prelude.{ℕ, zero, suc, ◌+◌, ◌*◌, ◌/◌, ◌^◌, true, false, cond, leb, eqb, Float}
use Rattle.std.specs.Float.{nan, inf, fin, Format}
use Rattle.std.specs.Float.Ieee.{low, up, down, size, round}

-- The whole part of √n, for an n below 4 ^ k: twice that of √(n / 4), or one more.
unfoldable pub isqrt_below : ℕ → ℕ → ℕ
isqrt_below zero n = 0
isqrt_below (suc k) n = let r = 2 * isqrt_below k (n / 4) in cond (leb ((r + 1) * (r + 1)) n) (r + 1) r

-- The whole part of √n. n has `size n` binary digits, so it is below 2 ^ size n, and below 4 ^ size n.
unfoldable pub isqrt : ℕ → ℕ
isqrt n = isqrt_below (size n) n

-- Twice the whole part r of √(n / c), and one more where something is left, a sticky digit: half of it is r where the root is r, and r + 1/2 where the root
-- lies between r and r + 1. So no whole number tells half of it from the root.
unfoldable pub sticky_sqrt : ℕ → ℕ → ℕ
sticky_sqrt n c = let r = isqrt (n / c) in 2 * r + cond (eqb (r * r * c) n) 0 1

-- The value of the format f nearest to √(num / den), ties to even, for a den above 0.
-- All values of f and all midpoints of two of them are multiples of half its smallest value, 2 ^ -(low f + 1). In that unit the root is
-- √(num * 4 ^ (low f + 1) / den), and no multiple tells half of its `sticky_sqrt` from it. So both have the same nearest value, and are at a tie together.
unfoldable pub round_sqrt : Format → ℕ → ℕ → Float
round_sqrt f num den = round f false (sticky_sqrt (num * 4 ^ (low f + 1)) den) (2 ^ (low f + 2))

-- The square root of a value of the format f: document 01's for binary32.
unfoldable pub sqrt : Format → Float → Float
sqrt f nan = nan
sqrt f (inf true) = nan
sqrt f (inf false) = inf false
sqrt f (fin s zero e) = fin s zero e
sqrt f (fin true (suc m) e) = nan
sqrt f (fin false (suc m) e) = round_sqrt f (suc m * up e) (down e)
