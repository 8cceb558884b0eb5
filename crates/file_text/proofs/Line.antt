-- A line of values, as it is written: `line-joined`, its words with a space between two and a line feed behind them; `words-joined`, that these are the words
-- that are read; so that they are values (`joined-fits`), and those that were written (`joined-values`). Rests on digits being neither a space nor a line feed,
-- and on `value-inverse`.
use Prim.Native.Nat.{ℕ}
use native.Mathlib.Nat.{mod-eq_of_lt}
use mathlib.Core.Path.{◌≡◌, refl, sym, ap, ◌∙◌}
use mathlib.Core.Bool.{true, false, and-eq-true_iff, false≢true}
use mathlib.Core.List.{List, [], ◌∷◌, ◌++◌, map, append_assoc}
use borrow.Author.Tests.{eq-eqb, ne_eqb}
use lib.Dec.{T, eqb, ltb}
use lib.ListN.{length, length-map}
use lib.Ieee.{Float, binary32, to_bits}
use lib.Ieee as ieee
use lib.Ieee.Bits.{of_bits-to_bits, to_bits-lt}
use lib.Ieee.Fits.{and_l, and_r}
use Rattle.motion_text.specs.hexadecimal.Digit.{position, digit_value}
use Rattle.motion_text.specs.hexadecimal.Word.{digits_only, digits}
use Rattle.motion_text.proofs.hexadecimal.Words.{length_digits}
use Rattle.motion_text.proofs.hexadecimal.Inverse.{digits-only, number_digits}
use Rattle.built_poses.specs.motion_chain.Chain.{every}
use Rattle.motion_text.specs.motion_file.Text.{line_feed, space, starts_with, split, single_spaced}
use Rattle.motion_text.specs.motion_file.Layout.{values, words, value_of, all_values, fits, values_of}
use Rattle.motion_text.specs.Answer.{line, word_of}
use Rattle.file_text.specs.Text.{values_text}

-- ---- texts without a byte
abbrev pub Without : ℕ → List ℕ → Type 0
Without b [] = Unit {0}
Without b (c ∷ s) = (eqb b c ≡ false) × Without b s

without-append : (b : ℕ) (s t : List ℕ) → Without b s → Without b t → Without b (s ++ t)
without-append b [] t h g = g
without-append b (c ∷ s) t (e, h) g = (e, without-append b s t h g)

pub split-line : (b : ℕ) (s t : List ℕ) → Without b s → split b (s ++ (b ∷ t)) ≡ s ∷ split b t
unfolding split
split-line b [] t h = rw (eq-eqb b b refl)
split-line b (c ∷ s) t (e, h) = rw (e, split-line b s t h)

split-none : (b : ℕ) (s : List ℕ) → Without b s → split b s ≡ s ∷ []
unfolding split
split-none b [] h = refl
split-none b (c ∷ s) (e, h) = rw (e, split-none b s h)

-- ---- digits
other : (b c : ℕ) → ltb (digit_value b) 16 ≡ false → ltb (digit_value c) 16 ≡ true → eqb b c ≡ false
other b c h g = ne_eqb b c (λ e. false≢true (sym h ∙ rw (← e) at g))

digits-without : (b : ℕ) → ltb (digit_value b) 16 ≡ false → (w : List ℕ) → digits_only w ≡ true → Without b w
unfolding digits_only
digits-without b h [] g = tt
digits-without b h (c ∷ w) g =
    let tests = (and-eq-true_iff (ltb (digit_value c) 16) (digits_only w)).0 g in
    (other b c h tests.0, digits-without b h w tests.1)

word-feedless : (x : Float) → Without line_feed (word_of x)
unfolding digit_value position
word-feedless x = digits-without line_feed refl (word_of x) (digits-only 8 (to_bits binary32 x))

word-spaceless : (x : Float) → Without space (word_of x)
unfolding digit_value position
word-spaceless x = digits-without space refl (word_of x) (digits-only 8 (to_bits binary32 x))

-- ---- words with a space between two
unfoldable pub joined : Float → List Float → List ℕ
joined x [] = word_of x
joined x (y ∷ xs) = word_of x ++ (space ∷ joined y xs)

pub line-joined : (x : Float) (xs : List Float) (t : List ℕ) → values_text (x ∷ xs) ++ t ≡ joined x xs ++ (line_feed ∷ t)
unfolding line joined
line-joined x [] t = append_assoc (word_of x) (line_feed ∷ []) t
line-joined x (y ∷ xs) t =
    append_assoc (word_of x) (space ∷ values_text (y ∷ xs)) t
    ∙ ap (λ (s : List ℕ). word_of x ++ (space ∷ s)) (line-joined y xs t)
    ∙ sym (append_assoc (word_of x) (space ∷ joined y xs) (line_feed ∷ t))

pub joined-feedless : (x : Float) (xs : List Float) → Without line_feed (joined x xs)
unfolding joined
joined-feedless x [] = word-feedless x
joined-feedless x (y ∷ xs) = without-append line_feed (word_of x) (space ∷ joined y xs) (word-feedless x) (refl, joined-feedless y xs)

-- ---- the words that are read
single-word : (w t : List ℕ) → Without space w → single_spaced (w ++ t) ≡ w ++ single_spaced t
unfolding single_spaced
single-word [] t h = refl
single-word (c ∷ w) t (e, h) = rw (e, single-word w t h)

single-none : (w : List ℕ) → Without space w → single_spaced w ≡ w
unfolding single_spaced
single-none [] h = refl
single-none (c ∷ w) (e, h) = rw (e, single-none w h)

starts-word : (x : Float) (t : List ℕ) → starts_with space (word_of x ++ t) ≡ false
unfolding digits
starts-word x t = (word-spaceless x).0

starts-joined : (x : Float) (xs : List Float) → starts_with space (joined x xs) ≡ false
unfolding joined digits
starts-joined x [] = (word-spaceless x).0
starts-joined x (y ∷ xs) = starts-word x (space ∷ joined y xs)

single-joined : (x : Float) (xs : List Float) → single_spaced (joined x xs) ≡ joined x xs
unfolding joined single_spaced
single-joined x [] = single-none (word_of x) (word-spaceless x)
single-joined x (y ∷ xs) =
    single-word (word_of x) (space ∷ joined y xs) (word-spaceless x)
    ∙ ap (λ (t : List ℕ). word_of x ++ t) (rw (starts-joined y xs, single-joined y xs))

split-joined : (x : Float) (xs : List Float) → split space (joined x xs) ≡ map word_of (x ∷ xs)
unfolding joined
split-joined x [] = split-none space (word_of x) (word-spaceless x)
split-joined x (y ∷ xs) =
    split-line space (word_of x) (joined y xs) (word-spaceless x) ∙ ap (λ (ws : List (List ℕ)). word_of x ∷ ws) (split-joined y xs)

pub words-joined : (x : Float) (xs : List Float) → words (joined x xs) ≡ map word_of (x ∷ xs)
words-joined x xs = rw (single-joined x xs) (split-joined x xs)

-- ---- and their values
words-values : (xs : List Float) → all_values (map word_of xs) ≡ true
unfolding all_values
words-values [] = refl
words-values (x ∷ xs) = rw (length_digits 8 (to_bits binary32 x), digits-only 8 (to_bits binary32 x), words-values xs)

pub joined-fits : (x : Float) (xs : List Float) (n : ℕ) → length (x ∷ xs) ≡ n → fits (values n) (joined x xs) ≡ true
unfolding fits
joined-fits x xs n h =
    rw (words-joined x xs, length-map (x ∷ xs) word_of, eq-eqb (length (x ∷ xs)) n h) (words-values (x ∷ xs))

-- the value of the word of a 32-bit float
pub value-inverse : (x : Float) → T (ieee.fits binary32 x) → value_of (word_of x) ≡ x
value-inverse x h =
    rw (number_digits 8 (to_bits binary32 x), mod-eq_of_lt (to_bits-lt binary32 x h)) (of_bits-to_bits binary32 x h)

values-inverse : (xs : List Float) → T (every (ieee.fits binary32) xs) → map value_of (map word_of xs) ≡ xs
unfolding every
values-inverse [] h = refl
values-inverse (x ∷ xs) h =
    rw (
      value-inverse x (and_l (ieee.fits binary32 x) (every (ieee.fits binary32) xs) h),
      values-inverse xs (and_r (ieee.fits binary32 x) (every (ieee.fits binary32) xs) h),
    )

pub joined-values : (x : Float) (xs : List Float) → T (every (ieee.fits binary32) (x ∷ xs)) → values_of (joined x xs) ≡ x ∷ xs
unfolding values_of
joined-values x xs h = rw (words-joined x xs) (values-inverse (x ∷ xs) h)
