-- Texts in a buffer: `part-front`, one written into the front of a part that reaches to the end;
-- `paste-next`, the next piece of a text put behind its first bytes.
use Prim.Native.Nat.{ℕ, ◌+◌, ◌-◌, ◌≤◌}
use native.Mathlib.Nat.{zero-add}
use native.Mathlib.Omega.{arith}
use mathlib.Core.Path.{◌≡◌, refl, sym, ◌∙◌, ap}
use mathlib.Core.List.{List, [], ◌++◌, append_assoc, append-nil}
use lib.ListN.{length, take, drop, length-drop, drop_of_length-le}
use lib.Seq.{paste, take_all, take-length, drop-drop}
use borrow.Author.Tests.{le-leb}
use Rattle.motion_text.specs.Answer.{text_left}
use Rattle.motion_text.proofs.Pastes.{paste-paste}

front-room : (text buffer : List ℕ) → length text ≤ length buffer → text_left text buffer ≡ text ++ drop (length text) buffer
unfolding text_left
front-room text buffer h = rw (le-leb (length text) (length buffer) h)

pub part-front : (text d : List ℕ) (at n : ℕ) → n ≡ length text → at + n ≤ length d
    → take at d ++ (text_left text (take (length d - at) (drop at d)) ++ drop (length d - at) (drop at d)) ≡ paste d at text n
part-front text d at n e h =
    let size : length (drop at d) ≡ length d - at = length-drop at d in
    let all : take (length d - at) (drop at d) ≡ drop at d = take_all (length d - at) (drop at d) (omega (arith, size)) in
    let none : drop (length d - at) (drop at d) ≡ [] = drop_of_length-le (drop at d) {i = length d - at} (omega (arith, size)) in
    let whole : take n text ≡ text = rw e (take-length text) in
    rw (all, none, append-nil (text_left text (drop at d)), front-room text (drop at d) (omega (arith, size, e)), ← e, drop-drop n at d, whole)
    (sym (append_assoc (take at d) text (drop (at + n) d)))

pub paste-next : (d s w : List ℕ) (j n : ℕ) → j ≤ length d → j ≤ length s → take n (drop j s) ≡ take n w
    → paste (paste d 0 s j) j w n ≡ paste d 0 s (j + n)
paste-next d s w j n h g e = rw (zero-add j) (rw (zero-add j) at (paste-paste d 0 s w j n (omega (arith, h)) g e))
