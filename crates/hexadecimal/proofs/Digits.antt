-- The digits of `specs/Digit.antt` by ranges of bytes, as the code tests them: `digit_value-decimal`, `-lower`, `-upper`, `-none`; `lower_digits-ranges`;
-- and `digit_value-inverse`, that a written digit is read as its value. Rests on tests of every byte and of every digit, which antt computes.
use Prim.Native.Nat.{ℕ, zero, suc, ◌+◌, ◌-◌, ◌≤◌, ◌<◌}
use native.Mathlib.Nat.{le_trans, min-le_left, le_of_suc-le-suc, not-suc-le-zero, eq-or-lt_of_le}
use mathlib.Core.Path.{◌≡◌}
use mathlib.Core.Bool.{Bool, true, false, cond, ◌&&◌}
use mathlib.Core.List.{List, [], ◌∷◌}
use mathlib.Core.Logic.{⊎_elim}
use native.Mathlib.Omega.{arith}
use lib.Dec.{T, eqb, leb, ltb, eqb→eq}
use lib.ListN.{length, get_or}
use lib.Ieee.Fits.{and_l, and_r}
use Rattle.hexadecimal.specs.Digit.{lower_digits, upper_digits, position, digit_value}

-- a test that every number below n passes
abbrev all_below : (ℕ → Bool) → ℕ → Bool
all_below f zero = true
all_below f (suc n) = f n && all_below f n

below : (f : ℕ → Bool) (n : ℕ) → T (all_below f n) → (k : ℕ) → k < n → T (f k)
below f zero t k h = absurd (not-suc-le-zero h)
below f (suc n) t k h =
    ⊎_elim
    (λ e. rw e (and_l (f n) (all_below f n) t))
    (λ l. below f n (and_r (f n) (all_below f n) t) k l)
    (eq-or-lt_of_le (le_of_suc-le-suc h))

abbrev pub in_range : ℕ → ℕ → ℕ → Bool
in_range low high b = leb low b && leb b high

-- a digit's value by the range that its byte lies in
abbrev by_range : ℕ → ℕ
by_range b = cond (in_range 48 57 b) (b - 48) (cond (in_range 97 102 b) (b - 87) (cond (in_range 65 70 b) (b - 55) 16))

byte : (b : ℕ) → b < 256 → by_range b ≡ digit_value b
unfolding digit_value
byte b h = eqb→eq (by_range b) (digit_value b) (below (λ k. eqb (by_range k) (digit_value k)) 256 tt b h)

module _ (b : ℕ) (h : b < 256) where
  pub digit_value-decimal : in_range 48 57 b ≡ true → b - 48 ≡ digit_value b
  digit_value-decimal d = rw d at (byte b h)

  pub digit_value-lower : in_range 48 57 b ≡ false → in_range 97 102 b ≡ true → b - 87 ≡ digit_value b
  digit_value-lower d l = rw (d, l) at (byte b h)

  pub digit_value-upper : in_range 48 57 b ≡ false → in_range 97 102 b ≡ false → in_range 65 70 b ≡ true → b - 55 ≡ digit_value b
  digit_value-upper d l u = rw (d, l, u) at (byte b h)

  pub digit_value-none : in_range 48 57 b ≡ false → in_range 97 102 b ≡ false → in_range 65 70 b ≡ false → 16 ≡ digit_value b
  digit_value-none d l u = rw (d, l, u) at (byte b h)

pub position-bound : (b : ℕ) (s : List ℕ) → position b s ≤ length s
unfolding position
position-bound b [] = omega arith
position-bound b (c ∷ s) = go (eqb b c) (position-bound b s)
  where
    go : (t : Bool) → position b s ≤ length s → cond t 0 (suc (position b s)) ≤ suc (length s)
    go true h = omega arith
    go false h = omega arith

pub digit_value-bound : (b : ℕ) → digit_value b ≤ 16
unfolding digit_value
digit_value-bound b = le_trans (min-le_left (position b lower_digits) (position b upper_digits)) (position-bound b lower_digits)

-- the digit of a value by the range that the value lies in
pub lower_digits-ranges : (d : ℕ) → d < 16 → cond (ltb d 10) (48 + d) (87 + d) ≡ get_or lower_digits d 0
lower_digits-ranges d h =
    eqb→eq (cond (ltb d 10) (48 + d) (87 + d)) (get_or lower_digits d 0)
    (below (λ k. eqb (cond (ltb k 10) (48 + k) (87 + k)) (get_or lower_digits k 0)) 16 tt d h)

-- a digit that is written is read as its value
pub digit_value-inverse : (d : ℕ) → d < 16 → digit_value (get_or lower_digits d 0) ≡ d
unfolding digit_value
digit_value-inverse d h =
    eqb→eq (digit_value (get_or lower_digits d 0)) d (below (λ k. eqb (digit_value (get_or lower_digits k 0)) k) 16 tt d h)
