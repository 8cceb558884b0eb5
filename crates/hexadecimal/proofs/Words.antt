-- Words of eight digits as the code takes them apart: `half-digits`, `read-halves` and `read_short` of a reading, `digits-store`, `write-fits` and
-- `write-short` of a writing. Rests on the definitions of `specs/Word.antt` alone.
use Rattle.std.specs.Prelude.{Some, None}
use Prim.Native.Nat.{ℕ, zero, suc, ◌+◌, ◌-◌, ◌*◌, ◌/◌, ◌%◌, ◌^◌, ◌≤◌, ◌<◌}
use native.Mathlib.Nat.{pow-succ', mul_assoc, mul-le-mul_right}
use native.Mathlib.Numerals.{add-one, add-two, add-three}
use native.Mathlib.Omega.{arith}
use mathlib.Core.Path.{◌≡◌, refl, ◌∙◌, ap}
use mathlib.Core.Bool.{Bool, true, false, cond, ◌&&◌, and_assoc, and-true, and-eq-true_iff}
use mathlib.Core.List.{List, [], ◌∷◌, ◌++◌}
use lib.Dec.{ltb}
use lib.Pow.{pow-add}
use lib.ListN.{length, take, drop, get_or, set, length-drop, length-append}
use lib.Seq.{drop-cons, drop-drop, take-add, take_all, length-take-le, paste, paste-suc}
use borrow.Author.Tests.{ltb-true, lt-ltb, le-leb, lt-leb}
use Rattle.hexadecimal.specs.Digit.{digit_value, lower_digits}
use Rattle.hexadecimal.specs.Word.{digits_only, number, number_or, digits, Word-read, Word-write}

-- the four bytes from a place on, one by one
take-four : (s : List ℕ) (at : ℕ) → at + 4 ≤ length s
    → take 4 (drop at s) ≡ get_or s at 0 ∷ get_or s (at + 1) 0 ∷ get_or s (at + 2) 0 ∷ get_or s (at + 3) 0 ∷ []
take-four s at h =
    rw (
      add-one,
      add-two,
      add-three,
      drop-cons s at 0 (omega arith),
      drop-cons s (suc at) 0 (omega arith),
      drop-cons s (suc (suc at)) 0 (omega arith),
      drop-cons s (suc (suc (suc at))) 0 (omega arith),
    )

-- four digits, as the code tests and weighs them
four-digits : (w x y z : ℕ)
    → cond (ltb (digit_value w) 16 && ltb (digit_value x) 16 && ltb (digit_value y) 16 && ltb (digit_value z) 16)
    (digit_value w * 4096 + digit_value x * 256 + digit_value y * 16 + digit_value z)
    65536
    ≡ number_or 65536 (w ∷ x ∷ y ∷ z ∷ [])
unfolding number_or digits_only number
four-digits w x y z =
    regrouped (ltb (digit_value w) 16) (ltb (digit_value x) 16) (ltb (digit_value y) 16) (ltb (digit_value z) 16) _ _ (omega arith)
  where
    regrouped : (p q r t : Bool) (m n : ℕ) → m ≡ n
        → cond (p && q && r && t) m 65536 ≡ cond (p && (q && (r && (t && true)))) n 65536
    regrouped p q r t m n e = rw (e, and_assoc, and_assoc, and-true)

pub half-digits : (s : List ℕ) (at a b c d : ℕ) → at + 4 ≤ length s
    → a ≡ digit_value (get_or s at 0) → b ≡ digit_value (get_or s (at + 1) 0)
    → c ≡ digit_value (get_or s (at + 2) 0) → d ≡ digit_value (get_or s (at + 3) 0)
    → cond (ltb a 16 && ltb b 16 && ltb c 16 && ltb d 16) (a * 4096 + b * 256 + c * 16 + d) 65536
    ≡ number_or 65536 (take 4 (drop at s))
half-digits s at a b c d h ea eb ec ed = rw (ea, eb, ec, ed, take-four s at h) (four-digits _ _ _ _)

digits_only-append : (s t : List ℕ) → digits_only (s ++ t) ≡ (digits_only s && digits_only t)
unfolding digits_only
digits_only-append [] t = refl
digits_only-append (b ∷ s) t = rw (digits_only-append s t, and_assoc)

number_append : (s t : List ℕ) → number (s ++ t) ≡ number s * 16 ^ length t + number t
unfolding number
number_append [] t = omega arith
number_append (b ∷ s) t =
    rw (number_append s t, length-append s t, pow-add 16 (length s) (length t))
    (omega (arith, mul_assoc (digit_value b) (16 ^ length s) (16 ^ length t)))

number_bound : (s : List ℕ) → digits_only s ≡ true → number s < 16 ^ length s
unfolding digits_only number
number_bound [] h = omega arith
number_bound (b ∷ s) h =
    let tests = (and-eq-true_iff (ltb (digit_value b) 16) (digits_only s)).0 h in
    omega (
      arith,
      pow-succ' 16 (length s),
      number_bound s tests.1,
      mul-le-mul_right (16 ^ length s) (ltb-true (digit_value b) 16 tests.0),
    )

-- a text of four bytes is all digits where its number, or 65,536, is below 65,536
number_or-test : (s : List ℕ) → length s ≡ 4 → ltb (number_or 65536 s) 65536 ≡ digits_only s
unfolding number_or
number_or-test s e = go (digits_only s) refl
  where
    go : (p : Bool) → digits_only s ≡ p → ltb (cond p (number s) 65536) 65536 ≡ p
    go true h = lt-ltb (number s) 65536 (rw e at (number_bound s h))
    go false h = refl

-- eight digits are two halves of four
joined : (s t : List ℕ) → length s ≡ 4 → length t ≡ 4
    → cond (ltb (number_or 65536 s) 65536 && ltb (number_or 65536 t) 65536) (Some (number_or 65536 s * 65536 + number_or 65536 t)) None
    ≡ cond (digits_only (s ++ t)) (Some (number (s ++ t))) None
unfolding number_or
joined s t d e = rw (number_or-test s d, number_or-test t e, digits_only-append s t, number_append s t, e) (go (digits_only s) (digits_only t))
  where
    go : (p q : Bool)
        → cond (p && q) (Some (cond p (number s) 65536 * 65536 + cond q (number t) 65536)) None
        ≡ cond (p && q) (Some (number s * 65536 + number t)) None
    go true true = refl
    go true false = refl
    go false q = refl

four-long : (s : List ℕ) (at : ℕ) → at + 4 ≤ length s → length (take 4 (drop at s)) ≡ 4
four-long s at h = length-take-le 4 (drop at s) (simp length-drop (omega arith))

eight-halves : (s : List ℕ) (at : ℕ) → take 8 (drop at s) ≡ take 4 (drop at s) ++ take 4 (drop (at + 4) s)
eight-halves s at = take-add 4 4 (drop at s) ∙ ap (λ (t : List ℕ). take 4 (drop at s) ++ take 4 t) (drop-drop 4 at s)

pub read-halves : (s : List ℕ) (at : ℕ) → at + 8 ≤ length s
    → cond (ltb (number_or 65536 (take 4 (drop at s))) 65536 && ltb (number_or 65536 (take 4 (drop (at + 4) s))) 65536)
    (Some (number_or 65536 (take 4 (drop at s)) * 65536 + number_or 65536 (take 4 (drop (at + 4) s))))
    None
    ≡ Word-read s at
unfolding Word-read
read-halves s at h =
    rw (le-leb (at + 8) (length s) h, eight-halves s at)
    (joined (take 4 (drop at s)) (take 4 (drop (at + 4) s)) (four-long s at (omega arith)) (four-long s (at + 4) (omega arith)))

pub read_short : (s : List ℕ) (at : ℕ) → length s < at + 8 → None ≡ Word-read s at
unfolding Word-read
read_short s at h = rw (lt-leb (at + 8) (length s) h)

-- the digit of n that stands at place i of its eight, as the code finds it
digits-at : (n i : ℕ) → i < 8 → get_or lower_digits (n / 2 ^ (28 - 4 * i) % 16) 0 ≡ get_or (digits 8 n) i 0
unfolding digits
digits-at n zero h = refl
digits-at n (suc zero) h = refl
digits-at n (suc (suc zero)) h = refl
digits-at n (suc (suc (suc zero))) h = refl
digits-at n (suc (suc (suc (suc zero)))) h = refl
digits-at n (suc (suc (suc (suc (suc zero))))) h = refl
digits-at n (suc (suc (suc (suc (suc (suc zero)))))) h = refl
digits-at n (suc (suc (suc (suc (suc (suc (suc zero))))))) h = refl
digits-at n (suc (suc (suc (suc (suc (suc (suc (suc i)))))))) h = absurd (omega arith)

pub length_digits : (k n : ℕ) → length (digits k n) ≡ k
unfolding digits
length_digits zero n = refl
length_digits (suc k) n = ap suc (length_digits k n)

-- a turn of the loop that writes: its store takes the first i digits to the first i + 1
pub digits-store : (s o : List ℕ) (at n i d : ℕ) → i < 8 → at + 8 ≤ length s
    → o ≡ paste s at (digits 8 n) i → d ≡ get_or lower_digits (n / 2 ^ (28 - 4 * i) % 16) 0
    → set o (at + i) d ≡ paste s at (digits 8 n) (i + 1)
digits-store s o at n i d h f e g =
    rw (e, g, digits-at n i h, add-one i) (paste-suc s at (digits 8 n) i 0 (omega arith) (rw (length_digits 8 n) h))

-- `Word-write` where the digits fit, as a run of stores leaves the list, and where they do not
pub write-fits : (s : List ℕ) (at n : ℕ) → at + 8 ≤ length s → paste s at (digits 8 n) 8 ≡ Word-write s at n
unfolding Word-write
write-fits s at n h = rw (le-leb (at + 8) (length s) h, take_all 8 (digits 8 n) (rw (length_digits 8 n) (omega arith)))

pub write-short : (s : List ℕ) (at n : ℕ) → length s < at + 8 → s ≡ Word-write s at n
unfolding Word-write
write-short s at n h = rw (lt-leb (at + 8) (length s) h)
