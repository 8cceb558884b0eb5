-- The union of a window's boxes as the code takes it: a pass over the moves from a place on (`pass-next`, `pass-end`), and the passes in a row
-- (`worked`); with answers that are the same on the way (`reached-next`, `reached-end`, `worked_same`).
use Prim.Native.Nat.{ℕ, zero, suc, ◌+◌, ◌≤◌, ◌<◌}
use mathlib.Core.Path.{◌≡◌, refl, sym, ap, subst, ◌∙◌}
use mathlib.Core.Bool.{Bool, true, false}
use mathlib.Core.List.{List, [], ◌∷◌, ◌++◌, map}
use native.Mathlib.Omega.{arith}
use borrow.Author.Tests.{eqb-true, eqb-false, eq-eqb, ne_eqb}
use lib.Dec.{eqb}
use lib.ListN.{length, get_or, drop, drop_of_length-le}
use Rattle.transform.specs.matrix4x4.Rows.{Rows}
use Rattle.bounds3.specs.declared.Bounds3f.{Bounds3f}
use Rattle.bounds3.specs.Bounds3f.{Bounds3f-default}
use Rattle.transform.specs.declared.BoundsAnswer.{BoundsAnswer}
use Rattle.transform.specs.declared.BoundsAnswer.TheVariants.{Bounds}
use Rattle.bounds_query.specs.Same.{BoundsAnswer-Same}
use Rattle.bounds_query.specs.Zeros.{BoundsAnswer-positive_zeros}
use Rattle.motion_piece.proofs.motion_pad.Zeros.{answers-zeros}
use Rattle.chain_rows.specs.bounds_answers.UnionAll.{BoundsAnswer-union_all}
use Rattle.chain_rows.proofs.bounds_answers.UnionAll.{union-append}
use Rattle.animated_transform.specs.declared.AnimatedTransform.{AnimatedTransform}
use Rattle.motion_rows.specs.Rows.{AnimatedTransform-from_rows}
use Rattle.chain_rows.specs.motion_chain.Chain.{Chain-moves}
use Rattle.chain_rows.specs.Kept.{Moves-chain}
use Rattle.window_times.specs.declared.Window.{Window}
use Rattle.chain_window.specs.Cover.{slice_boxes, first_pose_boxes, end_pose_boxes, equal_pose_boxes, is_nil, boxes_from, window_boxes, Chain-enclose_window}
use Rattle.window_slices.proofs.Same.{union-all-same}
use Rattle.window_cover.specs.means.Stage.{stage_boxes}
use Rattle.window_cover.proofs.Same.{first-valued}

-- ---- which move is the last
eqb-suc : (i n : ℕ) → eqb (i + 1) n ≡ eqb (suc i + 1) (suc n)
eqb-suc i n = go (eqb (i + 1) n) (eqb-true (i + 1) n) (eqb-false (i + 1) n)
  where
    go : (b : Bool) → (b ≡ true → i + 1 ≡ n) → (b ≡ false → i + 1 ≡ n → ⊥) → b ≡ eqb (suc i + 1) (suc n)
    go true f g = let e = f refl in sym (eq-eqb (suc i + 1) (suc n) (omega (arith, e)))
    go false f g = sym (ne_eqb (suc i + 1) (suc n) (λ e. g refl (omega (arith, e))))

pub last-at : (moves : List Rows) (i : ℕ) → i < length moves → is_nil (map AnimatedTransform-from_rows (drop (suc i) moves)) ≡ eqb (i + 1) (length moves)
last-at [] i h = absurd (omega (arith, h))
last-at (m ∷ []) zero h = sym (eq-eqb (0 + 1) (length (m ∷ [])) refl)
last-at (m ∷ x ∷ moves) zero h = sym (ne_eqb (0 + 1) (length (m ∷ x ∷ moves)) (λ e. absurd (omega (arith, e))))
last-at (m ∷ moves) (suc i) h = last-at moves i (omega (arith, h)) ∙ eqb-suc i (length moves)

-- ---- a pass over the moves
module _ (boxes : Bool → Bool → AnimatedTransform → List BoundsAnswer) where
  -- What is left of a pass from place i on, once r is taken.
  abbrev pub pass_from : BoundsAnswer → List Rows → ℕ → BoundsAnswer
  pass_from r moves i = BoundsAnswer-union_all r (boxes_from boxes (eqb i 0) (map AnimatedTransform-from_rows (drop i moves)))

  split : (first : Bool) (moves : List Rows) (i : ℕ) → i < length moves
      → boxes_from boxes first (map AnimatedTransform-from_rows (drop i moves))
      ≡ boxes first (is_nil (map AnimatedTransform-from_rows (drop (suc i) moves))) (AnimatedTransform-from_rows (get_or moves i []))
      ++ boxes_from boxes false (map AnimatedTransform-from_rows (drop (suc i) moves))
  unfolding boxes_from
  split first [] i h = absurd (omega (arith, h))
  split first (m ∷ moves) zero h = refl
  split first (m ∷ moves) (suc i) h = split first moves i (omega (arith, h))

  pub pass-next : (r u : BoundsAnswer) (moves : List Rows) (i : ℕ) → i < length moves
      → u ≡ BoundsAnswer-union_all r (boxes (eqb i 0) (eqb (i + 1) (length moves)) (AnimatedTransform-from_rows (get_or moves i [])))
      → pass_from u moves (i + 1) ≡ pass_from r moves i
  pass-next r u moves i h e =
      let n : i + 1 ≡ suc i = omega arith in
      let z : eqb (suc i) 0 ≡ false = ne_eqb (suc i) 0 (λ k. absurd (omega (arith, k))) in
      let own = boxes (eqb i 0) (eqb (i + 1) (length moves)) (AnimatedTransform-from_rows (get_or moves i [])) in
      let rest = boxes_from boxes false (map AnimatedTransform-from_rows (drop (suc i) moves)) in
      let whole : boxes_from boxes (eqb i 0) (map AnimatedTransform-from_rows (drop i moves)) ≡ own ++ rest =
      split (eqb i 0) moves i h ∙ ap (λ (l : Bool). boxes (eqb i 0) l (AnimatedTransform-from_rows (get_or moves i [])) ++ rest) (last-at moves i h) in
      let left : pass_from u moves (i + 1) ≡ BoundsAnswer-union_all (BoundsAnswer-union_all r own) rest =
      ap (λ (j : ℕ). BoundsAnswer-union_all u (boxes_from boxes (eqb j 0) (map AnimatedTransform-from_rows (drop j moves)))) n
      ∙ ap (λ (f : Bool). BoundsAnswer-union_all u (boxes_from boxes f (map AnimatedTransform-from_rows (drop (suc i) moves)))) z
      ∙ ap (λ (x : BoundsAnswer). BoundsAnswer-union_all x rest) e in
      left ∙ sym (union-append r own rest) ∙ sym (ap (BoundsAnswer-union_all r) whole)

  pub pass-end : (r : BoundsAnswer) (moves : List Rows) (i : ℕ) → length moves ≤ i → pass_from r moves i ≡ r
  unfolding boxes_from
  pass-end r moves i h = rw (drop_of_length-le moves {i = i} h)

  -- What is reached at place i: an answer that is the same as r, from which the rest of the pass gives that from s.
  pub record Reached (r s : BoundsAnswer) (moves : List Rows) (i : ℕ) : Type 0 where
    pub answer : BoundsAnswer
    pub same : BoundsAnswer-Same r answer
    pub rest : pass_from answer moves i ≡ pass_from s moves 0

  pub reached-start : {r s : BoundsAnswer} (moves : List Rows) → BoundsAnswer-Same r s → Reached r s moves 0
  reached-start {r} {s} moves h = record { answer = s; same = h; rest = refl }

  pub reached-next : {r s u : BoundsAnswer} (moves : List Rows) (i : ℕ) → i < length moves
      → ((t : BoundsAnswer) → BoundsAnswer-Same r t → BoundsAnswer-Same u
      (BoundsAnswer-union_all t (boxes (eqb i 0) (eqb (i + 1) (length moves)) (AnimatedTransform-from_rows (get_or moves i [])))))
      → Reached r s moves i → Reached u s moves (i + 1)
  reached-next moves i h f x =
      let own = boxes (eqb i 0) (eqb (i + 1) (length moves)) (AnimatedTransform-from_rows (get_or moves i [])) in
      record {
        answer = BoundsAnswer-union_all x.answer own;
        same = f x.answer x.same;
        rest = pass-next x.answer (BoundsAnswer-union_all x.answer own) moves i h refl ∙ x.rest;
      }

  pub reached-end : {r s : BoundsAnswer} (moves : List Rows) (i : ℕ) → length moves ≤ i → Reached r s moves i → BoundsAnswer-Same r (pass_from s moves 0)
  reached-end {r} moves i h x = subst (BoundsAnswer-Same r) (sym (pass-end x.answer moves i h) ∙ x.rest) x.same

-- ---- the passes in a row
pub moves-all : (rows : List Rows) → (length rows ≡ 0 → ⊥) → Chain-moves (Moves-chain rows) ≡ map AnimatedTransform-from_rows rows
unfolding Moves-chain
moves-all [] h = absurd (h refl)
moves-all (m ∷ rows) h = refl

module _ (rows : List Rows) (b : Bounds3f) (d : ℕ) (w : Window) where
  abbrev pass : ℕ → BoundsAnswer → BoundsAnswer
  pass k r = BoundsAnswer-union_all r (boxes_from (stage_boxes b d w k) true (map AnimatedTransform-from_rows rows))

  pub worked : (s f p r : BoundsAnswer) → (length rows ≡ 0 → ⊥)
      → s ≡ pass 0 (Bounds Bounds3f-default) → f ≡ BoundsAnswer-union_all s (first_pose_boxes b w (AnimatedTransform-from_rows (get_or rows 0 [])))
      → p ≡ pass 1 f → r ≡ pass 2 p
      → r ≡ Chain-enclose_window (Moves-chain rows) b d w
  unfolding Chain-enclose_window window_boxes Moves-chain stage_boxes
  worked s f p r some es ef ep er =
      let c = Moves-chain rows in
      let ms = map AnimatedTransform-from_rows rows in
      let S = boxes_from (λ first last m. slice_boxes b d w m) true ms in
      let F = first_pose_boxes b w (AnimatedTransform-from_rows (get_or rows 0 [])) in
      let E = boxes_from (λ first last m. end_pose_boxes b w last m) true ms in
      let Q = boxes_from (equal_pose_boxes b w) true ms in
      let start = Bounds Bounds3f-default in
      let joined : BoundsAnswer-union_all start (S ++ F ++ E ++ Q)
      ≡ BoundsAnswer-union_all (BoundsAnswer-union_all (BoundsAnswer-union_all (BoundsAnswer-union_all start S) F) E) Q =
      union-append start (S ++ F ++ E) Q ∙ ap (λ (x : BoundsAnswer). BoundsAnswer-union_all x Q) (union-append start (S ++ F) E)
      ∙ ap (λ (x : BoundsAnswer). BoundsAnswer-union_all (BoundsAnswer-union_all x E) Q) (union-append start S F) in
      let taken : r ≡ BoundsAnswer-union_all (BoundsAnswer-union_all (BoundsAnswer-union_all (BoundsAnswer-union_all start S) F) E) Q = rw (er, ep, ef, es) in
      taken ∙ sym joined
      ∙ ap (λ (l : List AnimatedTransform). BoundsAnswer-union_all start (boxes_from (λ first last m. slice_boxes b d w m) true l ++ F
      ++ boxes_from (λ first last m. end_pose_boxes b w last m) true l ++ boxes_from (equal_pose_boxes b w) true l)) (sym (moves-all rows some))

  -- The same with answers that are the same.
  pub worked_same : (s f p r : BoundsAnswer) → (length rows ≡ 0 → ⊥) → BoundsAnswer-Same s (pass 0 (Bounds Bounds3f-default))
      → f ≡ BoundsAnswer-union_all s (first_pose_boxes b w (AnimatedTransform-from_rows (get_or rows 0 [])))
      → ((t : BoundsAnswer) → BoundsAnswer-Same f t → BoundsAnswer-Same p (pass 1 t))
      → ((t : BoundsAnswer) → BoundsAnswer-Same p t → BoundsAnswer-Same r (pass 2 t))
      → BoundsAnswer-positive_zeros r ≡ BoundsAnswer-positive_zeros (Chain-enclose_window (Moves-chain rows) b d w)
  worked_same s f p r some hs ef hp hr =
      let m = AnimatedTransform-from_rows (get_or rows 0 []) in
      let S = pass 0 (Bounds Bounds3f-default) in
      let F = BoundsAnswer-union_all S (first_pose_boxes b w m) in
      let P = pass 1 F in
      let first : BoundsAnswer-Same f F =
      subst (λ (x : BoundsAnswer). BoundsAnswer-Same x F) (sym ef) (union-all-same hs (first_pose_boxes b w m) (first-valued b w m)) in
      answers-zeros (hr P (hp F first)) ∙ ap BoundsAnswer-positive_zeros (worked S F P (pass 2 P) some refl refl refl refl)
