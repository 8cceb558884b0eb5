-- What the steps of the code give: the words of the contracts of its private functions.
use Rattle.std.specs.Prelude.{◌≡◌, ℕ, ◌+◌, ◌-◌, ◌*◌, ◌%◌, ◌^◌, ◌≤◌, ◌<◌}
use Rattle.std.specs.Float.{binary32}
use Rattle.std.specs.Float.Ieee.{low, hid, ones, of_bits}
use Rattle.square_root.specs.SquareRoot.{round_sqrt}

-- r is the whole number nearest to √n: (r - 1/2)² < n < (r + 1/2)². A tie cannot be, since (r + 1/2)² = r² + r + 1/4 is not whole.
pub record NearestWhole (n r : ℕ) : Type 0 where
  pub above : r * r < n + r
  pub below : n ≤ r * r + r

-- m * 2 ^ i has 47 or 48 digits, so that its root has 24, and the exponent that is left, counted from 2 ^ -298, is even.
pub record Widened (m e i : ℕ) : Type 0 where
  pub shift : i ≤ 47
  pub least : 2 ^ 46 ≤ m * 2 ^ i
  pub most : m * 2 ^ i < 2 ^ 48
  pub even : (149 + e - i) % 2 ≡ 0

-- r is the bit pattern of the square root of m * 2 ^ e, in units of binary32's smallest value, and below that of +infinity.
pub record SqrtBits (m e r : ℕ) : Type 0 where
  pub below : r < ones binary32 * hid binary32
  pub is : of_bits binary32 r ≡ round_sqrt binary32 (m * 2 ^ e) (2 ^ low binary32)
