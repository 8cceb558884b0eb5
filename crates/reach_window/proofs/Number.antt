-- The number of a front is that of its first refused box: `front-number`, `front-none`, `front-some`. After a window's poses a box's number is that of its cover
-- of the window: `window-number`.
use Prim.Native.Nat.{ℕ, suc, ◌≤◌, ◌<◌}
use mathlib.Core.Path.{◌≡◌, refl, sym, ap, subst, ◌∙◌}
use mathlib.Core.Bool.{Bool, true, false, cond}
use mathlib.Core.List.{List, [], ◌∷◌, map}
use native.Mathlib.Omega.{arith}
use borrow.Author.Tests.{eqb-true, eq-eqb, ne_eqb}
use lib.Dec.{eqb}
use lib.ListN.{length}
use lib.Ieee.{Float}
use Rattle.interval.specs.refusal.First.{first_refusal}
use Rattle.interval.proofs.refusal.First.{first-stands, first-left}
use Rattle.transform.specs.bounds3.declared.Bounds3f.{Bounds3f}
use Rattle.transform.specs.bounds3.Bounds3f.{Bounds3f-default}
use Rattle.transform.specs.bounds3.List.{Bounds3f-of_list}
use Rattle.transform.specs.declared.BoundsAnswer.{BoundsAnswer}
use Rattle.transform.specs.declared.BoundsAnswer.TheVariants.{Bounds, Refused}
use Rattle.transform.specs.Answer.{BoundsAnswer-refusal}
use Rattle.motion_piece.specs.bounds_query.Query.{cover_refusal, BoundsAnswer-union_bounds}
use Rattle.motion_piece.specs.bounds_query.Zeros.{BoundsAnswer-positive_zeros}
use Rattle.motion_piece.proofs.bounds_query.Zeros.{zeros-refusal}
use Rattle.reach_laws.specs.bounds_answers.UnionAll.{BoundsAnswer-union_all}
use Rattle.motion_piece.proofs.motion_cover.NonZero.{BoundsAnswer-NonZero}
use Rattle.motion_piece.specs.means.Piece.{PaddedPose}
use Rattle.motion_piece.specs.means.Piece.{PaddedPose-enclose_bounds}
use Rattle.reach_laws.specs.motion_chain.Chain.{Chain, first_number, stage}
use Rattle.box_front.specs.declared.Front.{Front}
use Rattle.box_front.specs.means.Front.{Boxes-answers, Bounds3f-tested, Front-of}
use Rattle.box_front.proofs.Counted.{box-tested}
use Rattle.box_front.proofs.Put.{enclose-nonzero}
use Rattle.window_times.specs.declared.Window.{Window}
use Rattle.window_times.specs.Window.{Window-refusal}
use Rattle.reach_laws.specs.chain_window.Cover.{window_boxes, Chain-enclose_window, Chain-window_cover}
use Rattle.reach_window.specs.means.Poses.{window_poses}
use Rattle.reach_window.specs.means.Walk.{BoundsAnswer-then, Poses-answer}
use Rattle.reach_window.proofs.Poses.{boxes-poses}
use Rattle.reach_window.proofs.Walk.{both-then}

-- ---- a front
module _ (answer : Bounds3f → BoundsAnswer) (number : Bounds3f → ℕ)
    (same : (b : Bounds3f) → BoundsAnswer-refusal (answer b) ≡ number b) (nonzero : (b : Bounds3f) → BoundsAnswer-NonZero (answer b)) where
  abbrev front : List (List Float) → Front
  front boxes = Front-of (Boxes-answers answer boxes)

  pub front-number : (boxes : List (List Float)) → (front boxes).refusal ≡ stage number (map Bounds3f-of_list boxes)
  unfolding Front-of first_number
  front-number [] = refl
  front-number (b ∷ boxes) = go (answer (Bounds3f-of_list b)) (same (Bounds3f-of_list b)) (nonzero (Bounds3f-of_list b)) (front-number boxes)
    where
      n : ℕ
      n = number (Bounds3f-of_list b)

      rest : ℕ
      rest = stage number (map Bounds3f-of_list boxes)

      go : (a : BoundsAnswer) → BoundsAnswer-refusal a ≡ n → BoundsAnswer-NonZero a → (front boxes).refusal ≡ rest
          → (Front-of (a ∷ Boxes-answers answer boxes)).refusal ≡ first_refusal n rest
      go (Bounds x) e z later = unfold Front-of in later ∙ first-left n rest (sym e)
      go (Refused m) e z later = unfold Front-of in e ∙ first-stands n rest (λ k. z (e ∙ k))

  front-accepted : (boxes : List (List Float)) → length boxes ≤ (front boxes).count → (front boxes).refusal ≡ 0
  unfolding Front-of
  front-accepted [] l = refl
  front-accepted (b ∷ boxes) l = go (answer (Bounds3f-of_list b)) l (front-accepted boxes)
    where
      go : (a : BoundsAnswer) → suc (length boxes) ≤ (Front-of (a ∷ Boxes-answers answer boxes)).count → (length boxes ≤ (front boxes).count → (front boxes).refusal ≡ 0)
          → (Front-of (a ∷ Boxes-answers answer boxes)).refusal ≡ 0
      go (Bounds x) k later = unfold Front-of in later (omega (arith, k))
      go (Refused n) k later = unfold Front-of in absurd (omega (arith, k))

  pub front-none : (boxes : List (List Float)) → length boxes ≤ (front boxes).count → stage number (map Bounds3f-of_list boxes) ≡ 0
  front-none boxes h = sym (front-number boxes) ∙ front-accepted boxes h

  pub front-some : (boxes : List (List Float)) → (front boxes).count < length boxes → (front boxes).refusal ≡ 0 → ⊥
  unfolding Front-of
  front-some [] h e = absurd (omega (arith, h))
  front-some (b ∷ boxes) h e = go (answer (Bounds3f-of_list b)) (nonzero (Bounds3f-of_list b)) h e (front-some boxes)
    where
      go : (a : BoundsAnswer) → BoundsAnswer-NonZero a → (Front-of (a ∷ Boxes-answers answer boxes)).count < suc (length boxes)
          → (Front-of (a ∷ Boxes-answers answer boxes)).refusal ≡ 0 → ((front boxes).count < length boxes → (front boxes).refusal ≡ 0 → ⊥) → ⊥
      go (Bounds x) z k f later = unfold Front-of in later (omega (arith, k)) f
      go (Refused n) z k f later = unfold Front-of in z f

-- ---- a box after poses
-- Both are boxes, or both are refused with one number.
abbrev Alike : BoundsAnswer → BoundsAnswer → Type 0
Alike (Bounds x) (Bounds y) = Unit {0}
Alike (Refused n) (Refused m) = n ≡ m
Alike (Bounds x) (Refused n) = ⊥
Alike (Refused n) (Bounds x) = ⊥

alike-number : (x y : BoundsAnswer) → Alike x y → BoundsAnswer-refusal x ≡ BoundsAnswer-refusal y
alike-number (Bounds x) (Bounds y) a = refl
alike-number (Refused n) (Refused m) a = a
alike-number (Bounds x) (Refused n) a = absurd a
alike-number (Refused n) (Bounds x) a = absurd a

alike_next : (x y z : BoundsAnswer) → Alike x y → Alike (BoundsAnswer-then x z) (BoundsAnswer-union_bounds y z)
unfolding BoundsAnswer-union_bounds
alike_next (Bounds x) (Bounds y) (Bounds z) a = tt
alike_next (Bounds x) (Bounds y) (Refused n) a = refl
alike_next (Refused n) (Refused m) z a = a
alike_next (Bounds x) (Refused n) z a = absurd a
alike_next (Refused n) (Bounds x) z a = absurd a

alike-union : (f : Bounds3f → BoundsAnswer) (poses : List PaddedPose) (b : Bounds3f) (r : BoundsAnswer) → Alike (f b) r
    → Alike (Poses-answer f poses b) (BoundsAnswer-union_all r (map (λ p. PaddedPose-enclose_bounds p b) poses))
unfolding Poses-answer
alike-union f [] b r a = a
alike-union f (p ∷ poses) b r a =
    let s = PaddedPose-enclose_bounds p in
    alike-union (both-then f s) poses b (BoundsAnswer-union_bounds r (s b)) (alike_next (f b) r (s b) a)

pub refused-answer : (f : Bounds3f → BoundsAnswer) (poses : List PaddedPose) (b : Bounds3f) (n : ℕ) → f b ≡ Refused n → Poses-answer f poses b ≡ Refused n
unfolding Poses-answer
refused-answer f [] b n e = e
refused-answer f (p ∷ poses) b n e = refused-answer (both-then f (PaddedPose-enclose_bounds p)) poses b n (rw e)

then-nonzero : (x y : BoundsAnswer) → BoundsAnswer-NonZero x → BoundsAnswer-NonZero y → BoundsAnswer-NonZero (BoundsAnswer-then x y)
then-nonzero (Bounds b) y h k = k
then-nonzero (Refused n) y h k = h

answer-nonzero : (f : Bounds3f → BoundsAnswer) (poses : List PaddedPose) → ((b : Bounds3f) → BoundsAnswer-NonZero (f b))
    → (b : Bounds3f) → BoundsAnswer-NonZero (Poses-answer f poses b)
unfolding Poses-answer
answer-nonzero f [] h b = h b
answer-nonzero f (p ∷ poses) h b =
    let s = PaddedPose-enclose_bounds p in
    answer-nonzero (both-then f s) poses (λ x. then-nonzero (f x) (s x) (h x) (enclose-nonzero p x)) b

module _ (c : Chain) (d : ℕ) (w : Window) where
  -- What a box is answered after the window's poses.
  abbrev pub walked : Bounds3f → BoundsAnswer
  walked = Poses-answer (Bounds3f-tested d) (window_poses c d w)

  pub walked-nonzero : (b : Bounds3f) → BoundsAnswer-NonZero (walked b)
  walked-nonzero = answer-nonzero (Bounds3f-tested d) (window_poses c d w) (box-tested d)

  pub window-number : Window-refusal w ≡ 0 → (b : Bounds3f) → BoundsAnswer-refusal (walked b) ≡ BoundsAnswer-refusal (Chain-window_cover c b d w)
  window-number z b = go (eqb (cover_refusal b d) 0) refl (eqb-true (cover_refusal b d) 0)
    where
      boxes : List BoundsAnswer
      boxes = map (λ p. PaddedPose-enclose_bounds p b) (window_poses c d w)

      work : BoundsAnswer-refusal (BoundsAnswer-union_all (Bounds Bounds3f-default) boxes) ≡ BoundsAnswer-refusal (BoundsAnswer-positive_zeros (Chain-enclose_window c b d w))
      work = unfold Chain-enclose_window in ap (λ (l : List BoundsAnswer). BoundsAnswer-refusal (BoundsAnswer-union_all (Bounds Bounds3f-default) l)) (boxes-poses b c d w) ∙ sym (zeros-refusal (BoundsAnswer-union_all (Bounds Bounds3f-default) (window_boxes c b d w)))

      cover : (t : Bool) → eqb (cover_refusal b d) 0 ≡ t → Chain-window_cover c b d w ≡ cond t (BoundsAnswer-positive_zeros (Chain-enclose_window c b d w)) (Refused (cover_refusal b d))
      cover t e = unfold Chain-window_cover in rw (z, e)

      tested : (t : Bool) → eqb (cover_refusal b d) 0 ≡ t → Bounds3f-tested d b ≡ cond t (Bounds b) (Refused (cover_refusal b d))
      tested t e = rw e

      go : (t : Bool) → eqb (cover_refusal b d) 0 ≡ t → (t ≡ true → cover_refusal b d ≡ 0)
          → BoundsAnswer-refusal (walked b) ≡ BoundsAnswer-refusal (Chain-window_cover c b d w)
      go true e f =
          alike-number (walked b) (BoundsAnswer-union_all (Bounds Bounds3f-default) boxes)
          (alike-union (Bounds3f-tested d) (window_poses c d w) b (Bounds Bounds3f-default) (rw (tested true e) tt))
          ∙ work ∙ ap BoundsAnswer-refusal (sym (cover true e))
      go false e f =
          ap BoundsAnswer-refusal (refused-answer (Bounds3f-tested d) (window_poses c d w) b (cover_refusal b d) (tested false e))
          ∙ ap BoundsAnswer-refusal (sym (cover false e))
