-- A word read digit by digit: `append-low`, `append-high`, `append-large` and `append-fits` by what refuses a digit; `append-on`, `append-off` and `append-end`
-- along the word; `read_none`, `read_some` for the word as a whole.
use Rattle.std.specs.Prelude.{Option, Some, None}
use Prim.Native.Nat.{ℕ, suc, ◌+◌, ◌-◌, ◌*◌, ◌/◌, ◌≤◌, ◌<◌}
use native.Mathlib.Numerals.{add-one}
use native.Mathlib.Omega.{arith}
use mathlib.Core.Path.{◌≡◌, refl, sym, ap}
use mathlib.Core.Bool.{Bool, true, false, cond, false≢true}
use mathlib.Core.List.{List}
use lib.ListN.{length, drop, get_or, drop_of_length-le}
use lib.Seq.{drop-cons}
use borrow.Author.Tests.{le-leb, lt-leb, lt-ltb, le-ltb, eq-eqb, ne_eqb}
use Rattle.question_lines.specs.Words.{appended, can_append, Decimal-append, append_all, Decimal-read}

module _ (n b : ℕ) where
  pub append-low : b < 48 → None ≡ Decimal-append n b
  unfolding Decimal-append
  append-low h = rw (lt-leb 48 b h)

  pub append-high : 57 < b → None ≡ Decimal-append n b
  unfolding Decimal-append
  append-high h = rw (le-leb 48 b (omega arith), lt-leb b 57 h)

  pub append-large : 48 ≤ b → b ≤ 57 → (18446744073709551615 - (b - 48)) / 10 < n → None ≡ Decimal-append n b
  unfolding Decimal-append
  append-large h g l = rw (le-leb 48 b h, le-leb b 57 g, le-ltb (appended n b) 18446744073709551616 (omega arith))

  pub append-fits : 48 ≤ b → b ≤ 57 → n ≤ (18446744073709551615 - (b - 48)) / 10 → Some (n * 10 + (b - 48)) ≡ Decimal-append n b
  unfolding Decimal-append
  append-fits h g l = rw (le-leb 48 b h, le-leb b 57 g, lt-ltb (appended n b) 18446744073709551616 (omega arith))

abbrev pub value_of : Option ℕ → ℕ
value_of (Some n) = n
value_of None = 0

abbrev pub is_value : Option ℕ → Bool
is_value (Some n) = true
is_value None = false

module _ (word : List ℕ) (value i : ℕ) (h : i < length word) where
  pub append-on : (n : ℕ) → Decimal-append value (get_or word i 0) ≡ Some n → append_all value (drop i word) ≡ append_all n (drop (i + 1) word)
  unfolding Decimal-append append_all
  append-on n e = rw (drop-cons word i 0 h, add-one i) (go (can_append value (get_or word i 0)) e)
    where
      go : (t : Bool) → cond t (Some (appended value (get_or word i 0))) None ≡ Some n
          → cond t (append_all (appended value (get_or word i 0)) (drop (suc i) word)) None ≡ append_all n (drop (suc i) word)
      go true e = ap (λ (m : ℕ). append_all m (drop (suc i) word)) (ap value_of e)
      go false e = absurd (false≢true (ap is_value e))

  pub append-off : Decimal-append value (get_or word i 0) ≡ None → append_all value (drop i word) ≡ None
  unfolding Decimal-append append_all
  append-off e = rw (drop-cons word i 0 h) (go (can_append value (get_or word i 0)) e)
    where
      go : (t : Bool) → cond t (Some (appended value (get_or word i 0))) None ≡ None
          → cond t (append_all (appended value (get_or word i 0)) (drop (suc i) word)) None ≡ None
      go true e = absurd (false≢true (sym (ap is_value e)))
      go false e = refl

pub append-end : (word : List ℕ) (value i : ℕ) → length word ≤ i → Some value ≡ append_all value (drop i word)
unfolding append_all
append-end word value i h = rw (drop_of_length-le word h)

pub read_none : (word : List ℕ) → length word ≡ 0 → None ≡ Decimal-read word
unfolding Decimal-read
read_none word e = rw (eq-eqb (length word) 0 e)

pub read_some : (word : List ℕ) → (length word ≡ 0 → ⊥) → append_all 0 word ≡ Decimal-read word
unfolding Decimal-read
read_some word n = rw (ne_eqb (length word) 0 n)
