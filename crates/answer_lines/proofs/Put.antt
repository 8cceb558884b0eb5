-- A text put into a buffer: `put-fits` and `put-short`, with the place behind it; `put-empty`; `put-float`, a space and a float; `floats-fit` and `floats-short`,
-- so many floats; `floats-turn`, one float more.
-- Rests on `paste-paste`.
use Prim.Native.Nat.{ℕ, zero, suc, ◌+◌, ◌*◌, ◌≤◌, ◌<◌}
use native.Mathlib.Nat.{add-zero, not-suc-le-zero}
use native.Mathlib.Numerals.{add-one}
use native.Mathlib.Omega.{arith}
use mathlib.Core.Path.{◌≡◌, refl, sym, ◌∙◌, ap}
use mathlib.Core.Bool.{Bool, true, false, cond}
use mathlib.Core.List.{List, [], ◌∷◌, ◌++◌}
use lib.Dec.{leb}
use lib.Ieee.{Float, nan, binary32, to_bits}
use lib.ListN.{length, take, drop, get_or, set, length-append, length-set}
use lib.Seq.{paste, paste-zero, take-length, length-take-le, drop-cons, drop-drop, set_split, append_snoc}
use borrow.Author.Tests.{le-leb, lt-leb}
use Rattle.hexadecimal.specs.Word.{digits, Word-write}
use Rattle.hexadecimal.proofs.Words.{length_digits, write-fits}
use Rattle.motion_text.specs.motion_file.Text.{space}
use Rattle.motion_text.specs.Answer.{word_of}
use Rattle.motion_text.proofs.Pastes.{paste-paste}
use Rattle.answer_lines.specs.Pieces.{put, behind, spaced_floats, floats_text}

-- what a function that puts a text gives: the place behind it, and the buffer afterwards
abbrev pub Puts : List ℕ → List ℕ → ℕ → List ℕ → ℕ → Type 0
Puts text buffer at after r = (r ≡ behind text buffer at) × (after ≡ put text buffer at)

module _ (text buffer : List ℕ) (at : ℕ) where
  pub put-fits : at + length text ≤ length buffer → Puts text buffer at (paste buffer at text (length text)) (at + length text)
  unfolding put behind
  put-fits h = rw (le-leb (at + length text) (length buffer) h, take-length text) (refl, refl)

  pub put-short : length buffer < at + length text → Puts text buffer at buffer at
  unfolding put behind
  put-short h = rw (lt-leb (at + length text) (length buffer) h) (refl, refl)

pub put-empty : (buffer : List ℕ) (at : ℕ) → Puts [] buffer at buffer at
unfolding put behind
put-empty buffer at = go (leb (at + 0) (length buffer))
  where
    go : (t : Bool) → (at ≡ cond t (at + 0) at) × (buffer ≡ cond t (take at buffer ++ [] ++ drop (at + 0) buffer) buffer)
    go true = (sym (add-zero at), paste-zero buffer at [])
    go false = (refl, refl)

-- the text of so many floats
pub floats-enough : (xs : List Float) (n : ℕ) → n ≤ length xs → floats_text xs n ≡ spaced_floats (take n xs)
unfolding floats_text
floats-enough xs n h = rw (le-leb n (length xs) h)

pub floats-few : (xs : List Float) (n : ℕ) → length xs < n → floats_text xs n ≡ []
unfolding floats_text
floats-few xs n h = rw (lt-leb n (length xs) h)

pub length-floats : (xs : List Float) → length (spaced_floats xs) ≡ 9 * length xs
unfolding spaced_floats
length-floats [] = refl
length-floats (x ∷ xs) = ap suc (length-append (word_of x) (spaced_floats xs)) ∙ rw (length_digits 8 (to_bits binary32 x), length-floats xs) (omega arith)

-- the first so many of floats that are enough
module _ (xs : List Float) (n : ℕ) (h : n ≤ length xs) where
  length-enough : length (spaced_floats (take n xs)) ≡ 9 * n
  length-enough = length-floats (take n xs) ∙ rw (length-take-le n xs h)

  pub floats-fit : (o : List ℕ) (at : ℕ) → at + 9 * n ≤ length o → Puts (floats_text xs n) o at (paste o at (spaced_floats (take n xs)) (9 * n)) (at + 9 * n)
  floats-fit o at room = rw (floats-enough xs n h, ← length-enough) (put-fits (spaced_floats (take n xs)) o at (omega (arith, length-enough)))

  pub floats-short : (o : List ℕ) (at : ℕ) → length o < at + 9 * n → Puts (floats_text xs n) o at o at
  floats-short o at short = rw (floats-enough xs n h) (put-short (spaced_floats (take n xs)) o at (omega (arith, length-enough)))

nine-on : (x : Float) (xs : List Float) → drop 9 (spaced_floats (x ∷ xs)) ≡ spaced_floats xs
unfolding spaced_floats digits
nine-on x xs = refl

floats-drop : (k : ℕ) (xs : List Float) → k ≤ length xs → drop (9 * k) (spaced_floats xs) ≡ spaced_floats (drop k xs)
floats-drop zero xs h = refl
floats-drop (suc k) [] h = absurd (not-suc-le-zero h)
floats-drop (suc k) (x ∷ xs) h =
    let e : 9 * suc k ≡ 9 + 9 * k = omega arith in
    rw (e, ← drop-drop (9 * k) 9 (spaced_floats (x ∷ xs)), nine-on x xs) (floats-drop k xs (omega arith))

nine-of : (x : Float) (xs : List Float) → take 9 (spaced_floats (x ∷ xs)) ≡ take 9 (spaced_floats (x ∷ []))
unfolding spaced_floats digits
nine-of x xs = refl

eight-of : (x : Float) → take 8 (drop 1 (spaced_floats (x ∷ []))) ≡ take 8 (word_of x)
unfolding spaced_floats digits
eight-of x = refl

-- a space, and then the digits
pub put-float : (x : Float) (o : List ℕ) (at n : ℕ) → at + 9 ≤ length o → n ≡ to_bits binary32 x
    → Word-write (set o at space) (at + 1) n ≡ paste o at (spaced_floats (x ∷ [])) 9
put-float x o at n h e =
    let one : set o at space ≡ paste o at (spaced_floats (x ∷ [])) 1 = spaced in
    sym (write-fits (set o at space) (at + 1) n (rw (length-set o at space) (omega arith)))
    ∙ rw (one, e) (paste-paste o at (spaced_floats (x ∷ [])) (word_of x) 1 8 (omega arith) (rw (length-floats (x ∷ [])) (omega arith)) (eight-of x))
  where
    spaced : set o at space ≡ paste o at (spaced_floats (x ∷ [])) 1
    spaced = unfold spaced_floats in rw (set_split o at space (omega arith), append_snoc (take at o) space (drop (at + 1) o), ← add-one at)

-- a float put behind the first k
pub floats-turn : (xs : List Float) (k : ℕ) (d o w : List ℕ) (at : ℕ) → k < length xs → at + 9 * length xs ≤ length d
    → o ≡ paste d at (spaced_floats xs) (9 * k) → w ≡ paste o (at + 9 * k) (spaced_floats (get_or xs k nan ∷ [])) 9
    → w ≡ paste d at (spaced_floats xs) (9 * (k + 1))
floats-turn xs k d o w at h room eo ew =
    let nine : 9 * (k + 1) ≡ 9 * k + 9 = omega arith in
    let word : take 9 (drop (9 * k) (spaced_floats xs)) ≡ take 9 (spaced_floats (get_or xs k nan ∷ [])) =
    rw (floats-drop k xs (omega arith), drop-cons xs k nan h) (nine-of (get_or xs k nan) (drop (suc k) xs)) in
    ew
    ∙ rw (eo, nine)
    (paste-paste d at (spaced_floats xs) (spaced_floats (get_or xs k nan ∷ [])) (9 * k) 9 (omega arith) (rw (length-floats xs) (omega arith)) word)
