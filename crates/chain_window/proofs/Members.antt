-- What stands in the lists of boxes: what a test lets in (`member-if`, `member-only`), a property of each move's boxes as one of all of them (`boxes-each`),
-- and along two ways of finding boxes (`boxes-along`).
use mathlib.Core.Logic.{inl, inr}
use mathlib.Core.Bool.{Bool, true, false, cond}
use mathlib.Core.List.Memᴰ
use mathlib.Core.List.{List, [], ◌∷◌, Memᴰ}
use mathlib.Core.Path.{refl}
use lib.Dec.{T}
use Rattle.motion_chain.specs.transform.declared.BoundsAnswer.{BoundsAnswer}
use Rattle.motion_chain.specs.bounds_answers.UnionAll.{Each}
use Rattle.motion_chain.specs.animated_transform.declared.AnimatedTransform.{AnimatedTransform}
use Rattle.chain_window.specs.Cover.{is_nil, boxes_from}

-- ---- a list that stands where a test holds
pub member-if : {A : Type 0} {r : A} {answers : List A} (test : Bool) → T test → Memᴰ r answers → Memᴰ r (cond test answers [])
member-if true h m = m
member-if false h m = absurd h

pub member-only : {A : Type 0} {r : A} (answers : List A) (test : Bool) → Memᴰ r (cond test answers []) → T test × Memᴰ r answers
member-only answers true m = (tt, m)
member-only answers false m = absurd (Memᴰ.not-nil m)

pub each_member : {A : Type 0} {P : A → Type 0} (answers : List A) → ((r : A) → Memᴰ r answers → P r) → Each P answers
each_member [] h = tt
each_member (r ∷ answers) h = (h r (Memᴰ.head refl), each_member answers (λ s m. h s (Memᴰ.tail m)))

-- ---- the boxes of the moves
abbrev Boxes : Type 0
Boxes = Bool → Bool → AnimatedTransform → List BoundsAnswer

module _ (Q : BoundsAnswer → Type 0) (boxes : Boxes)
    (own : (first last : Bool) (m : AnimatedTransform) (r : BoundsAnswer) → Memᴰ r (boxes first last m) → Q r) where
  pub boxes-each : (first : Bool) (moves : List AnimatedTransform) (r : BoundsAnswer) → Memᴰ r (boxes_from boxes first moves) → Q r
  unfolding boxes_from
  boxes-each first [] r m = absurd (Memᴰ.not-nil m)
  boxes-each first (x ∷ moves) r m =
      elim (Memᴰ.append_cases (boxes first (is_nil moves) x) m) [
        | inl k ↦ own first (is_nil moves) x r k
        | inr k ↦ boxes-each false moves r k
      ]

-- What holds of all boxes found one way holds of those found another way, where it does so move by move.
module _ (P : AnimatedTransform → Type 0) (Q : BoundsAnswer → Type 0) (boxes boxes' : Boxes)
    (along : (first last : Bool) (m : AnimatedTransform) → P m → ((r : BoundsAnswer) → Memᴰ r (boxes first last m) → Q r)
    → (r : BoundsAnswer) → Memᴰ r (boxes' first last m) → Q r) where
  pub boxes-along : (first : Bool) (moves : List AnimatedTransform) → Each P moves → ((r : BoundsAnswer) → Memᴰ r (boxes_from boxes first moves) → Q r)
      → (r : BoundsAnswer) → Memᴰ r (boxes_from boxes' first moves) → Q r
  unfolding boxes_from
  boxes-along first [] h q r m = absurd (Memᴰ.not-nil m)
  boxes-along first (x ∷ moves) (h, hs) q r m =
      elim (Memᴰ.append_cases (boxes' first (is_nil moves) x) m) [
        | inl k ↦ along first (is_nil moves) x h (λ s i. q s (Memᴰ.append_left (boxes_from boxes false moves) i)) r k
        | inr k ↦ boxes-along false moves hs (λ s i. q s (Memᴰ.append_right (boxes first (is_nil moves) x) i)) r k
      ]
