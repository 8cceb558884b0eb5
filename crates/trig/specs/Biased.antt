-- A number of units with a sign as a natural number, 2 ^ 30 more than it is (excess 2 ^ 30), from 0 for -1 to 2 ^ 31 for 1: what the code carries,
-- and what the arc cosine's search compares.
use Rattle.std.specs.Prelude.{ℕ, suc, ◌+◌, ◌-◌, ◌^◌, ℤ, pos, negsuc}
use Rattle.trig.specs.Units.{sin_units}

-- z + 2 ^ 30, for a z from -2 ^ 30 on.
unfoldable pub biased : ℤ → ℕ
biased (pos n) = 2 ^ 30 + n
biased (negsuc n) = 2 ^ 30 - suc n

-- The sine of u, biased.
abbrev pub biased_sin : ℕ → ℕ
biased_sin u = biased (sin_units u)
