-- A word of digits as 32 bits hold its number, digit by digit: `saturated-on`, `saturated-off` and `saturated-end` along the word; `saturated-none` and
-- `saturated-some` for the word as a whole. All rest on one fact: to hold a number before digits are put behind it changes nothing (`held_number`).
use Rattle.std.specs.Prelude.{Some, None}
use Prim.Native.Nat.{ℕ, suc, ◌+◌, ◌≤◌, ◌<◌}
use native.Mathlib.Numerals.{add-one}
use native.Mathlib.Omega.{arith}
use mathlib.Core.Path.{◌≡◌, refl, sym, ap, ◌∙◌}
use mathlib.Core.Bool.{Bool, true, false, cond, ◌&&◌, false≢true, and-eq-true_iff}
use mathlib.Core.List.{List, [], ◌∷◌}
use lib.Dec.{leb, ltb}
use lib.ListN.{length, drop, get_or, drop_of_length-le}
use lib.Seq.{drop-cons}
use borrow.Author.Tests.{lt-ltb, le-ltb, ltb-true, ltb-false, leb-true}
use Rattle.question_lines.specs.Words.{appended, can_append, Decimal-append, Decimal-saturated, are_digits, number_from, Decimal-read_saturated}
use Rattle.question_lines.proofs.Decimals.{value_of, is_value}

held-append : (m b : ℕ) → Decimal-saturated (appended (Decimal-saturated m) b) ≡ Decimal-saturated (appended m b)
held-append m b = go (ltb m 4294967296) refl
  where
    go : (p : Bool) → ltb m 4294967296 ≡ p → Decimal-saturated (appended (cond p m 4294967295) b) ≡ Decimal-saturated (appended m b)
    go true e = refl
    go false e =
        rw (
          le-ltb (appended 4294967295 b) 4294967296 (omega arith),
          le-ltb (appended m b) 4294967296 (omega (arith, ltb-false m 4294967296 e)),
        )

held-twice : (m : ℕ) → Decimal-saturated (Decimal-saturated m) ≡ Decimal-saturated m
held-twice m = go (ltb m 4294967296) refl
  where
    go : (p : Bool) → ltb m 4294967296 ≡ p → Decimal-saturated (cond p m 4294967295) ≡ cond p m 4294967295
    go true e = rw e
    go false e = refl

held_number : (bs : List ℕ) (m : ℕ) → Decimal-saturated (number_from (Decimal-saturated m) bs) ≡ Decimal-saturated (number_from m bs)
unfolding number_from
held_number [] m = held-twice m
held_number (b ∷ bs) m =
    sym (held_number bs (appended (Decimal-saturated m) b))
    ∙ ap (λ (n : ℕ). Decimal-saturated (number_from n bs)) (held-append m b)
    ∙ held_number bs (appended m b)

-- what is held is below 2^32
pub held_small : (m : ℕ) → Decimal-saturated m < 4294967296
held_small m = go (ltb m 4294967296) refl
  where
    go : (p : Bool) → ltb m 4294967296 ≡ p → cond p m 4294967295 < 4294967296
    go true e = ltb-true m 4294967296 e
    go false e = omega arith

module _ (word : List ℕ) (value i : ℕ) (h : i < length word) where
  pub saturated-on : (n : ℕ) → Decimal-append value (get_or word i 0) ≡ Some n
      → (are_digits (drop i word) ≡ are_digits (drop (i + 1) word))
      × (Decimal-saturated (number_from value (drop i word)) ≡ Decimal-saturated (number_from (Decimal-saturated n) (drop (i + 1) word)))
  unfolding Decimal-append are_digits number_from
  saturated-on n e = rw (drop-cons word i 0 h, add-one i) (go (drop (suc i) word) (can_append value (get_or word i 0)) refl e)
    where
      go : (rest : List ℕ) (t : Bool) → can_append value (get_or word i 0) ≡ t → cond t (Some (appended value (get_or word i 0))) None ≡ Some n
          → (leb 48 (get_or word i 0) && leb (get_or word i 0) 57 && are_digits rest ≡ are_digits rest)
          × (Decimal-saturated (number_from (appended value (get_or word i 0)) rest) ≡ Decimal-saturated (number_from (Decimal-saturated n) rest))
      go rest false f e = absurd (false≢true (ap is_value e))
      go rest true f e = (
        rw ((and-eq-true_iff (leb 48 (get_or word i 0) && leb (get_or word i 0) 57) (ltb (appended value (get_or word i 0)) 18446744073709551616)).0 f).0,
        sym (held_number rest (appended value (get_or word i 0))) ∙ ap (λ (m : ℕ). Decimal-saturated (number_from (Decimal-saturated m) rest)) (ap value_of e),
      )

  -- a number below 2^32 is malformed with a byte behind it only where that is no digit
  pub saturated-off : value < 4294967296 → Decimal-append value (get_or word i 0) ≡ None → are_digits (drop i word) ≡ false
  unfolding Decimal-append are_digits
  saturated-off s e = rw (drop-cons word i 0 h) (go (leb 48 (get_or word i 0)) (leb (get_or word i 0) 57) refl e)
    where
      go : (p q : Bool) → leb (get_or word i 0) 57 ≡ q
          → cond (p && q && ltb (appended value (get_or word i 0)) 18446744073709551616) (Some (appended value (get_or word i 0))) None ≡ None
          → p && q && are_digits (drop (suc i) word) ≡ false
      go false q f e = refl
      go true false f e = refl
      go true true f e =
          let small = leb-true (get_or word i 0) 57 f in
          absurd (false≢true (sym (ap is_value (rw (lt-ltb (appended value (get_or word i 0)) 18446744073709551616 (omega (arith, s, small))) at e))))

pub saturated-end : (word : List ℕ) (value i : ℕ) → length word ≤ i → value < 4294967296
    → (are_digits (drop i word) ≡ true) × (Decimal-saturated (number_from value (drop i word)) ≡ value)
unfolding are_digits number_from
saturated-end word value i h s = rw (drop_of_length-le word h, lt-ltb value 4294967296 s) (refl, refl)

pub saturated-none : (word : List ℕ) → length word ≡ 0 → None ≡ Decimal-read_saturated word
unfolding Decimal-read_saturated
saturated-none word e = rw e

pub saturated-some : (word : List ℕ) → (length word ≡ 0 → ⊥)
    → Decimal-read_saturated word ≡ cond (are_digits word) (Some (Decimal-saturated (number_from 0 word))) None
unfolding Decimal-read_saturated
saturated-some word n = rw (lt-ltb 0 (length word) (omega (arith, n)))
