-- Texts put into a buffer: `paste-paste`, a text put piece by piece; `front_fits` and `front-short`, a text in the front of a buffer;
-- `front-counts`, its length.
use Prim.Native.Nat.{ℕ, ◌+◌, ◌≤◌, ◌<◌}
use native.Mathlib.Nat.{add_assoc, zero-add}
use native.Mathlib.Omega.{arith}
use mathlib.Core.Path.{◌≡◌, refl, sym, ◌∙◌, ap}
use mathlib.Core.List.{List, ◌++◌, append_assoc}
use lib.ListN.{length, take, drop, length-append}
use lib.Seq.{paste, take-add, take-append-le, drop_at, take-length, take_at, drop-drop, take-paste, drop-paste}
use borrow.Author.Tests.{le-leb, lt-leb}
use Rattle.motion_text.specs.Answer.{text_left, length_in}

-- the next n bytes of a text, put behind the first j
pub paste-paste : (d : List ℕ) (at : ℕ) (s w : List ℕ) (j n : ℕ) → at + j ≤ length d → j ≤ length s → take n (drop j s) ≡ take n w
    → paste (paste d at s j) (at + j) w n ≡ paste d at s (j + n)
paste-paste d at s w j n h g e =
    rw (
      take-paste d at s j (omega arith) g,
      ← e,
      take-add j n s,
      ← drop-drop n (at + j) (paste d at s j),
      drop-paste d at s j (omega arith) g,
      drop-drop n (at + j) d,
      add_assoc at j n,
    )
    (ap (λ (t : List ℕ). t ++ drop (at + (j + n)) d) (append_assoc (take at d) (take j s) (take n (drop j s))))

module _ (text buffer : List ℕ) where
  pub front_fits : length text ≤ length buffer → paste buffer 0 text (length text) ≡ text_left text buffer
  unfolding text_left
  front_fits h = rw (le-leb (length text) (length buffer) h, take-length text, zero-add (length text))

  pub front-short : length buffer < length text → buffer ≡ text_left text buffer
  unfolding text_left
  front-short h = rw (lt-leb (length text) (length buffer) h)

  pub length_in-fits : length text ≤ length buffer → length text ≡ length_in text buffer
  unfolding length_in
  length_in-fits h = rw (le-leb (length text) (length buffer) h)

  pub length_in-short : length buffer < length text → 0 ≡ length_in text buffer
  unfolding length_in
  length_in-short h = rw (lt-leb (length text) (length buffer) h)

  -- the front of the buffer is as long as the text
  pub front-counts : length text ≤ length buffer
      → (length text ≤ length (text_left text buffer)) × (length text ≡ length (take (length text) (text_left text buffer)))
  unfolding text_left
  front-counts h =
      rw (le-leb (length text) (length buffer) h, take_at text (drop (length text) buffer) (length text) refl, length-append text (drop (length text) buffer))
      (omega arith, refl)

-- what a function that writes a text into the front of a buffer gives: the length, the buffer afterwards, and that the length counts its bytes
abbrev pub Wrote : List ℕ → List ℕ → List ℕ → ℕ → Type 0
Wrote text buffer after r =
    (r ≡ length_in text buffer) × ((after ≡ text_left text buffer) × ((r ≤ length after) × (r ≡ length (take r after))))

pub wrote_none : (text buffer : List ℕ) → length buffer < length text → Wrote text buffer buffer 0
wrote_none text buffer h = (length_in-short text buffer h, (front-short text buffer h, (omega arith, refl)))

-- a text put in one piece
pub wrote_one : (text buffer after : List ℕ) (r : ℕ) → r ≡ length text → r ≤ length buffer → after ≡ paste buffer 0 text r
    → (r ≡ length_in text buffer) × (after ≡ text_left text buffer)
wrote_one text buffer after r er h e =
    let fit : length text ≤ length buffer = omega (arith, er) in
    (er ∙ length_in-fits text buffer fit, e ∙ rw er (front_fits text buffer fit))

-- a text put in two pieces
pub wrote-two : (first second buffer half after : List ℕ) (m n r : ℕ) → m ≡ length first → n ≡ length second → r ≡ m + n → r ≤ length buffer
    → half ≡ paste buffer 0 first m → after ≡ paste half m second n → Wrote (first ++ second) buffer after r
wrote-two first second buffer half after m n r em en er h eh ea =
    let size : length (first ++ second) ≡ m + n = rw (length-append first second, em, en) in
    let total : r ≡ length (first ++ second) = er ∙ sym size in
    let start : half ≡ paste buffer 0 (first ++ second) m = eh ∙ rw (take-append-le m first second (omega arith)) in
    let joined : paste (paste buffer 0 (first ++ second) m) m second n ≡ paste buffer 0 (first ++ second) (m + n) =
    rw (zero-add m)
    (rw (zero-add m) at
    (paste-paste buffer 0 (first ++ second) second m n (omega arith) (omega (arith, size)) (rw (drop_at first second m (sym em))))) in
    let fit : length (first ++ second) ≤ length buffer = omega arith in
    let whole : after ≡ text_left (first ++ second) buffer = ea ∙ rw start (joined ∙ rw (← size) (front_fits (first ++ second) buffer fit)) in
    rw (whole, total) (length_in-fits (first ++ second) buffer fit, (refl, front-counts (first ++ second) buffer fit))
