-- Reading inverts writing: `read-inverse`. Rests on `digits-only` and `number_digits`, that the digits of a number are digits and write it, and on the place
-- that a write leaves them at.
use Rattle.std.specs.Prelude.{Some}
use Prim.Native.Nat.{ℕ, zero, suc, ◌+◌, ◌/◌, ◌%◌, ◌^◌, ◌≤◌, ◌<◌}
use native.Mathlib.Nat.{pow-succ', one-le-pow, mod-one, mod-eq_of_lt}
use native.Mathlib.Omega.{arith}
use mathlib.Core.Path.{◌≡◌, refl, sym}
use mathlib.Core.Bool.{true}
use mathlib.Core.List.{List, ◌++◌, append_assoc}
use lib.Arith.{mod-mul}
use lib.ListN.{length, take, drop}
use lib.Seq.{paste, take_all, take_at, drop_at, length-take-le, length-paste}
use borrow.Author.Tests.{lt-ltb, le-leb}
use Rattle.hexadecimal.specs.Word.{digits_only, number, digits, Word-read, Word-write}
use Rattle.hexadecimal.proofs.Digits.{digit_value-inverse}
use Rattle.hexadecimal.proofs.Words.{length_digits, write-fits}

below-sixteen : (n : ℕ) → n % 16 < 16
below-sixteen n = omega arith

pub digits-only : (k n : ℕ) → digits_only (digits k n) ≡ true
unfolding digits_only digits
digits-only zero n = refl
digits-only (suc k) n =
    rw (digit_value-inverse (n / 16 ^ k % 16) (below-sixteen (n / 16 ^ k)), lt-ltb (n / 16 ^ k % 16) 16 (below-sixteen (n / 16 ^ k)))
    (digits-only k n)

pub number_digits : (k n : ℕ) → number (digits k n) ≡ n % 16 ^ k
unfolding number digits
number_digits zero n = sym (mod-one n)
number_digits (suc k) n =
    rw (
      digit_value-inverse (n / 16 ^ k % 16) (below-sixteen (n / 16 ^ k)),
      length_digits k n,
      number_digits k n,
      pow-succ' 16 k,
      mod-mul n {m = 16} {c = 16 ^ k} (omega arith) (one-le-pow k 16 (omega arith)),
    )

-- what stands at the place after a write
pasted : (s t : List ℕ) (at k : ℕ) → at ≤ length s → length t ≡ k → take k (drop at (paste s at t k)) ≡ t
pasted s t at k h e =
    rw (
      take_all k t (omega arith),
      append_assoc (take at s) t (drop (at + k) s),
      drop_at (take at s) (t ++ drop (at + k) s) at (length-take-le at s h),
      take_at t (drop (at + k) s) k e,
    )

-- a word that was written is read back
pub read-inverse : (s : List ℕ) (at n : ℕ) → n < 2 ^ 32 → at + 8 ≤ length s → Word-read (Word-write s at n) at ≡ Some n
unfolding Word-read
read-inverse s at n h f =
    rw (
      ← write-fits s at n f,
      pasted s (digits 8 n) at 8 (omega arith) (length_digits 8 n),
      length-paste s at (digits 8 n) 8 f (omega (arith, length_digits 8 n)),
      le-leb (at + 8) (length s) f,
      digits-only 8 n,
      number_digits 8 n,
      mod-eq_of_lt h,
    )
