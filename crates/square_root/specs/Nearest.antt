-- The words of the laws of the square root. A root is compared with a number by its square, so that no real number is named.
use Rattle.std.specs.Prelude.{◌≡◌, ℕ, ◌+◌, ◌-◌, ◌*◌, ◌/◌, ◌%◌, ◌^◌, ◌≤◌, ◌<◌, false, pos, T, Float}
use Rattle.std.specs.Float.{fin, Format}
use Rattle.std.specs.Float.Ieee.{prec, low, size, fits}
use Rattle.std.specs.Float.Ieee.Exact.{HasValue}
use Rattle.square_root.specs.SquareRoot.{isqrt}

-- Zero, without a sign.
abbrev pub +0 : Float
+0 = fin false 0 (pos 0)

-- r is the whole part of √n.
pub record FloorSqrt (n r : ℕ) : Type 0 where
  pub least : r * r ≤ n
  pub above : n < (r + 1) * (r + 1)

-- s / 2 and √(n / c) are on the same side of every whole number h.
pub record SameSide (n c s : ℕ) : Type 0 where
  pub ge : (h : ℕ) → h * h * c ≤ n → 2 * h ≤ s
  pub ge' : (h : ℕ) → 2 * h ≤ s → h * h * c ≤ n
  pub le : (h : ℕ) → n ≤ h * h * c → s ≤ 2 * h
  pub le' : (h : ℕ) → s ≤ 2 * h → n ≤ h * h * c

-- R and another value Y against √(n / d), all in units of a format's smallest value: the root is on R's side of the midpoint (R + Y) / 2, or at it, so Y is
-- no nearer to the root than R is. Where the root is the midpoint, R is an even multiple of 2 ^ k, the last unit that the format keeps.
pub record NearestSqrt (n d k R Y : ℕ) : Type 0 where
  pub from-below : Y < R → (R + Y) * (R + Y) * d ≤ 4 * n
  pub from-above : R < Y → 4 * n ≤ (R + Y) * (R + Y) * d
  pub tie-even : (R ≡ Y → ⊥) → (R + Y) * (R + Y) * d ≡ 4 * n → R / 2 ^ k % 2 ≡ 0

-- z is the value of the format f nearest to √(num / den), ties to even: no other value of at least zero is nearer. In units of f's smallest value, 2 ^ -low f,
-- the root is √(num * 4 ^ low f / den), and of the binary digits of its whole part f keeps the first `prec f`.
pub record CorrectlyRoundedSqrt (f : Format) (num den : ℕ) (z : Float) : Type 0 where
  pub units : ℕ
  pub value : HasValue z false units (2 ^ low f)
  pub nearest : (y : Float) (Y : ℕ) → T (fits f y) → HasValue y false Y (2 ^ low f)
      → NearestSqrt (num * 4 ^ low f) den (size (isqrt (num * 4 ^ low f / den)) - prec f) units Y
