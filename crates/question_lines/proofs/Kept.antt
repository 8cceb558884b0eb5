-- Bytes that are moved to the front of their buffer: `kept-front`, and `kept-none` and `kept-empty` where there are none.
use Prim.Native.Nat.{ℕ, ◌-◌, ◌≤◌, ◌<◌}
use native.Mathlib.Omega.{arith}
use mathlib.Core.Path.{◌≡◌, refl, sym, ◌∙◌}
use mathlib.Core.Bool.{Bool, true, false, cond}
use mathlib.Core.List.{List, []}
use lib.Dec.{ltb}
use lib.ListN.{length, take, drop, length-drop}
use lib.Seq.{paste, paste-zero, take-nil, take-take, take_all, length-take-le}
use borrow.Author.Tests.{ltb-true, ltb-false, le-leb, lt-leb}
use Rattle.motion_text.specs.Answer.{text_left}
use Rattle.motion_text.proofs.Pastes.{front_fits}
use Rattle.question_lines.specs.Words.{part}

-- the lesser of two numbers of elements
take-lesser : (m n : ℕ) (l : List ℕ) → m ≤ length l → take n (take m l) ≡ take (cond (ltb m n) m n) l
take-lesser m n l h = go (ltb m n) refl
  where
    go : (t : Bool) → ltb m n ≡ t → take n (take m l) ≡ take (cond t m n) l
    go true e = take_all n (take m l) (rw (length-take-le m l h) (omega (arith, ltb-true m n e)))
    go false e = take-take n m l (ltb-false m n e)

lesser-bound : (m n : ℕ) → cond (ltb m n) m n ≤ m
lesser-bound m n = go (ltb m n) refl
  where
    go : (t : Bool) → ltb m n ≡ t → cond t m n ≤ m
    go true e = omega arith
    go false e = ltb-false m n e

-- what a function that keeps a part of a buffer gives: how many bytes, and the buffer afterwards
abbrev pub Keeps : List ℕ → List ℕ → List ℕ → ℕ → Type 0
Keeps text buffer after r = (r ≡ length text) × (after ≡ text_left text buffer)

pub kept-front : (d o : List ℕ) (from to most size : ℕ) → to ≤ length d → from ≤ to → size ≡ cond (ltb (to - from) most) (to - from) most
    → o ≡ paste d 0 (drop from d) size → Keeps (take most (part d from to)) d o size
unfolding part
kept-front d o from to most size h g e eo =
    let long : to - from ≤ length (drop from d) = rw (length-drop from d) (omega arith) in
    let cut : take most (part d from to) ≡ take size (drop from d) = rw (le-leb to (length d) h, e) (take-lesser (to - from) most (drop from d) long) in
    let few : size ≤ to - from = rw e (lesser-bound (to - from) most) in
    let count : length (take size (drop from d)) ≡ size = length-take-le size (drop from d) (omega (arith, few, long)) in
    let same : take size (take size (drop from d)) ≡ take size (drop from d) = take_all size (take size (drop from d)) (rw count (omega arith)) in
    rw cut (sym count, eo ∙ rw (count, same) at (front_fits (take size (drop from d)) d (rw count (omega arith))))

nothing : (d : List ℕ) → d ≡ text_left [] d
nothing d = paste-zero d 0 [] ∙ front_fits [] d (omega arith)

pub kept-none : (d : List ℕ) (from to most : ℕ) → length d < to → Keeps (take most (part d from to)) d d 0
unfolding part
kept-none d from to most h = rw (lt-leb to (length d) h, take-nil {A = ℕ} most) (refl, nothing d)

pub kept-empty : (d : List ℕ) (from to most : ℕ) → to ≤ length d → to < from → Keeps (take most (part d from to)) d d 0
unfolding part
kept-empty d from to most h g =
    let none : to - from ≡ 0 = omega arith in
    rw (le-leb to (length d) h, none, take-nil {A = ℕ} most) (refl, nothing d)
