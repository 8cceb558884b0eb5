-- Words of a line by place: `word-past`, none behind the line's end; whole numbers one by one:
-- `end_on` and `stored_on`, one more, `end-off` and `stored-off`, a malformed one.
use Rattle.std.specs.Prelude.{Some, None}
use Prim.Native.Nat.{ℕ, suc, ◌+◌, ◌-◌, ◌≤◌, ◌<◌}
use native.Mathlib.Numerals.{add-one}
use native.Mathlib.Omega.{arith}
use mathlib.Core.Path.{◌≡◌, refl, sym, ◌∙◌, ap}
use mathlib.Core.List.{List, []}
use lib.ListN.{length, drop, set}
use borrow.Author.Tests.{le-leb, lt-leb}
use Rattle.question_lines.specs.hexadecimal.Digit.{position}
use Rattle.question_lines.specs.motion_file.Text.{space}
use Rattle.question_lines.specs.Words.{part, Decimal-read}
use Rattle.question_lines.proofs.Decimals.{read_none}
use Rattle.question_reader.specs.Question.{no_place, word_end, word_at, decimals_end, decimals_stored, Decimals-end, Decimals-stored}

module _ (line : List ℕ) (at : ℕ) (h : length line ≤ at) where
  pub word-past : word_at line (at + 1) ≡ []
  unfolding part word_end
  word-past =
      let p : ℕ = position space (drop (at + 1) line) in
      let past : length line < at + 1 + p = omega arith in
      rw (lt-leb (at + 1 + p) (length line) past)

  pub decimal-past : Decimal-read (word_at line (at + 1)) ≡ None
  decimal-past = ap Decimal-read word-past ∙ sym (read_none [] refl)

module _ (line wholes : List ℕ) (count k at : ℕ) (h : k < count) where
  one_less : count - k ≡ suc (count - (k + 1))
  one_less = omega arith

  pub end_on : (n : ℕ) → Decimal-read (word_at line (at + 1)) ≡ Some n
      → decimals_end (count - k) line at ≡ decimals_end (count - (k + 1)) line (word_end line (at + 1))
  unfolding decimals_end
  end_on n e = ap (λ (m : ℕ). decimals_end m line at) one_less ∙ rw e

  pub stored_on : (n : ℕ) → Decimal-read (word_at line (at + 1)) ≡ Some n
      → decimals_stored (count - k) k line at wholes ≡ decimals_stored (count - (k + 1)) (k + 1) line (word_end line (at + 1)) (set wholes k n)
  unfolding decimals_stored
  stored_on n e = ap (λ (m : ℕ). decimals_stored m k line at wholes) one_less ∙ rw (e, add-one k)

  pub end-off : Decimal-read (word_at line (at + 1)) ≡ None → no_place ≡ decimals_end (count - k) line at
  unfolding decimals_end
  end-off e = sym (ap (λ (m : ℕ). decimals_end m line at) one_less ∙ rw e)

  pub stored-off : Decimal-read (word_at line (at + 1)) ≡ None → wholes ≡ decimals_stored (count - k) k line at wholes
  unfolding decimals_stored
  stored-off e = sym (ap (λ (m : ℕ). decimals_stored m k line at wholes) one_less ∙ rw e)

pub end_none : (line : List ℕ) (at : ℕ) → at ≡ decimals_end 0 line at
unfolding decimals_end
end_none line at = refl

pub stored-none : (line wholes : List ℕ) (k at : ℕ) → wholes ≡ decimals_stored 0 k line at wholes
unfolding decimals_stored
stored-none line wholes k at = refl

module _ (count : ℕ) (line : List ℕ) (at : ℕ) (wholes : List ℕ) where
  -- what `read_decimals` gives
  abbrev pub Reads : ℕ → List ℕ → Type 0
  Reads r after = (r ≡ Decimals-end count line at) × (after ≡ Decimals-stored count line at wholes)

  pub few : (r : ℕ) (after : List ℕ) → count ≤ 4 → r ≡ decimals_end count line at → after ≡ decimals_stored count 0 line at wholes → Reads r after
  unfolding Decimals-end Decimals-stored
  few r after h a b = rw (le-leb count 4 h) (a, b)

  pub many : 4 < count → Reads no_place wholes
  unfolding Decimals-end Decimals-stored
  many h = rw (lt-leb count 4 h) (refl, refl)
