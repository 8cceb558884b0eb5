-- Texts put one behind the other into the front of a buffer, and what they leave: `both-written`. A text in its front leaves it as long as it was,
-- `front-size`, and is what stands there, `front-taken`.
use Prim.Native.Nat.{ℕ, ◌+◌, ◌-◌, ◌≤◌}
use native.Mathlib.Omega.{arith}
use mathlib.Core.Path.{◌≡◌, refl, sym, ap, ◌∙◌}
use mathlib.Core.Bool.{Bool, true, false, cond}
use mathlib.Core.List.{List, ◌++◌}
use lib.Dec.{leb}
use lib.ListN.{length, take, drop, length-append, length-drop}
use lib.Seq.{paste, take_at}
use borrow.Author.Tests.{le-leb, leb-true, leb-false}
use Rattle.motion_text.specs.Answer.{text_left, length_in}
use Rattle.motion_text.proofs.Pastes.{front_fits, front-counts, length_in-fits, length_in-short, Wrote, wrote-two}
use Rattle.chain_text.proofs.Parts.{part-front}

pub front-size : (text buffer : List ℕ) → length (text_left text buffer) ≡ length buffer
unfolding text_left
front-size text buffer = go (leb (length text) (length buffer)) (leb-true (length text) (length buffer))
  where
    go : (p : Bool) → (p ≡ true → length text ≤ length buffer) → length (cond p (text ++ drop (length text) buffer) buffer) ≡ length buffer
    go true f = omega (arith, f refl, length-append text (drop (length text) buffer), length-drop (length text) buffer)
    go false f = refl

pub front-taken : (text buffer left : List ℕ) (n : ℕ) → n ≡ length text → n ≤ length buffer → left ≡ text_left text buffer → take n left ≡ text
unfolding text_left
front-taken text buffer left n e h el =
    let fits : length text ≤ length buffer = omega (arith, e, h) in
    rw (el, le-leb (length text) (length buffer) fits) (take_at text (drop (length text) buffer) n (sym e))

-- a text that was written, or not where it doesn't fit
pub wrote : (text buffer after : List ℕ) (r : ℕ) → r ≡ length_in text buffer → after ≡ text_left text buffer → Wrote text buffer after r
wrote text buffer after r er ea = go (leb (length text) (length buffer)) refl
  where
    go : (p : Bool) → leb (length text) (length buffer) ≡ p → Wrote text buffer after r
    go true e =
        let fit = leb-true (length text) (length buffer) e in
        let size : r ≡ length text = er ∙ sym (length_in-fits text buffer fit) in
        (er, (ea, rw (ea, size) (front-counts text buffer fit)))
    go false e = let none : r ≡ 0 = er ∙ sym (length_in-short text buffer (leb-false (length text) (length buffer) e)) in (er, (ea, rw none (omega arith, refl)))

module _ (first second buffer half : List ℕ) (m : ℕ) (counted : m ≡ length first)
    (room : m + length second ≤ length buffer) (written : half ≡ text_left first buffer) where
  pasted : half ≡ paste buffer 0 first m
  pasted = written ∙ (sym (front_fits first buffer (omega (arith, counted, room))) ∙ ap (λ (k : ℕ). paste buffer 0 first k) (sym counted))

  -- the second text is written into what is left of the buffer
  pub both-written : (after : List ℕ) → after ≡ take m half ++ (text_left second (take (length half - m) (drop m half)) ++ drop (length half - m) (drop m half))
      → after ≡ text_left (first ++ second) buffer
  both-written after e =
      let same : length half ≡ length buffer = ap length written ∙ front-size first buffer in
      (wrote-two first second buffer half after m (length second) (m + length second) counted refl refl room pasted
      (e ∙ part-front second half m (length second) refl (omega (arith, same, room)))
      ).1.0
