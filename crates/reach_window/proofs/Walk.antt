-- Poses one after another: none, `walks-none`, some and then others, `walks-append`, one pose as the code takes it, `walks-pose` and `walks-few`. Where no box is
-- refused in the end, none was before: `answered-before`.
use Prim.Native.Nat.{ℕ, zero, suc, ◌+◌, ◌≤◌, ◌<◌}
use mathlib.Core.Path.{◌≡◌, refl, sym, ap, subst, ◌∙◌}
use mathlib.Core.Bool.{Bool, true, false}
use mathlib.Core.List.{List, [], ◌∷◌, ◌++◌, map, append_assoc, append-nil}
use native.Mathlib.Omega.{arith}
use lib.ListN.{length, take}
use lib.Ieee.{Float}
use Rattle.transform.specs.bounds3.declared.Bounds3f.{Bounds3f}
use Rattle.transform.specs.bounds3.List.{Bounds3f-list, Bounds3f-of_list}
use Rattle.transform.specs.declared.BoundsAnswer.{BoundsAnswer}
use Rattle.transform.specs.declared.BoundsAnswer.TheVariants.{Bounds, Refused}
use Rattle.transform.specs.Answer.{BoundsAnswer-bounds}
use Rattle.motion_piece.specs.means.Piece.{PaddedPose}
use Rattle.motion_piece.specs.means.Piece.{PaddedPose-enclose_bounds}
use Rattle.box_front.specs.declared.Front.{Front}
use Rattle.box_front.specs.means.Front.{place_count, Boxes-answers, Front-of, Places-put, PaddedPose-front, PaddedPose-places}
use Rattle.motion_fronts.proofs.Front.{BoundsAnswer-after, joined, both, both-accepted, take-first}
use Rattle.reach_rows.specs.Named.{named_rows}
use Rattle.transform.specs.matrix4x4.Rows.{Rows}
use Rattle.animated_transform.specs.declared.AnimatedTransform.{AnimatedTransform}
use Rattle.reach_window.proofs.Poses.{rest_from, own_at, rest-next, rest-last}
use Rattle.reach_window.specs.means.Walk.{BoundsAnswer-then, Poses-answer, PaddedPose-moved, Poses-names, Walks}

-- ---- one answer after another
then-after : (x y : BoundsAnswer) → BoundsAnswer-then x y ≡ BoundsAnswer-after x y
then-after (Bounds b) y = refl
then-after (Refused n) y = refl

module _ (f s : Bounds3f → BoundsAnswer) where
  abbrev pub both-then : Bounds3f → BoundsAnswer
  both-then b = BoundsAnswer-then (f b) (s b)

  then-both : both-then ≡ both true f s
  then-both i b = then-after (f b) (s b) i

  then-front : (boxes : List (List Float)) → Front-of (Boxes-answers both-then boxes) ≡ Front-of (Boxes-answers (both true f s) boxes)
  then-front boxes = ap (λ (g : Bounds3f → BoundsAnswer). Front-of (Boxes-answers g boxes)) then-both

  pub then-accepted : (boxes : List (List Float)) → (Front-of (Boxes-answers both-then boxes)).count ≡ length boxes → (Front-of (Boxes-answers f boxes)).count ≡ length boxes
  then-accepted boxes e = (both-accepted true f s boxes (ap (λ (x : Front). x.count) (sym (then-front boxes)) ∙ e)).0

pub answered-before : (f : Bounds3f → BoundsAnswer) (poses : List PaddedPose) (boxes : List (List Float))
    → (Front-of (Boxes-answers (Poses-answer f poses) boxes)).count ≡ length boxes → (Front-of (Boxes-answers f boxes)).count ≡ length boxes
unfolding Poses-answer
answered-before f [] boxes e = e
answered-before f (p ∷ poses) boxes e =
    then-accepted f (PaddedPose-enclose_bounds p) boxes (answered-before (both-then f (PaddedPose-enclose_bounds p)) poses boxes e)

-- ---- some poses and then others
answer-append : (f : Bounds3f → BoundsAnswer) (poses others : List PaddedPose) → Poses-answer f (poses ++ others) ≡ Poses-answer (Poses-answer f poses) others
unfolding Poses-answer
answer-append f [] others = refl
answer-append f (p ∷ poses) others = answer-append (both-then f (PaddedPose-enclose_bounds p)) poses others

names-append : (boxes rows : List (List Float)) (poses others : List PaddedPose) (names : List Bool)
    → Poses-names boxes rows (poses ++ others) names ≡ Poses-names boxes rows others (Poses-names boxes rows poses names)
unfolding Poses-names
names-append boxes rows [] others names = refl
names-append boxes rows (p ∷ poses) others names =
    names-append boxes rows poses others (named_rows (PaddedPose-moved p boxes) (map Bounds3f-of_list rows) names)

module _ {boxes rows : List (List Float)} where
  pub walks-none : {front : Front} {names : List Bool} → Walks boxes rows [] front front names names
  unfolding Poses-answer Poses-names
  walks-none = record { fronts = λ f e. e; names = λ f e k. refl }

  pub walks-append : {poses others : List PaddedPose} {from mid to : Front} {old middle new : List Bool}
      → Walks boxes rows poses from mid old middle → Walks boxes rows others mid to middle new → Walks boxes rows (poses ++ others) from to old new
  walks-append {poses} {others} {from} {mid} {to} {old} {middle} {new} p q = record {
    fronts = λ f e.
        q.fronts (Poses-answer f poses) (p.fronts f e)
        ∙ ap (λ (g : Bounds3f → BoundsAnswer). Front-of (Boxes-answers g boxes)) (sym (answer-append f poses others));
    names = λ f e k.
        let reached = p.fronts f e in
        let last = q.fronts (Poses-answer f poses) reached in
        let before = answered-before (Poses-answer f poses) others boxes (ap (λ (x : Front). x.count) (sym last) ∙ k) in
        let count = ap (λ (x : Front). x.count) reached ∙ before in
        q.names (Poses-answer f poses) reached k
        ∙ ap (Poses-names boxes rows others) (p.names f e count)
        ∙ sym (names-append boxes rows poses others old);
  }

-- ---- one pose
-- The first places hold the boxes that the pose moves the boxes to.
module _ (f s : Bounds3f → BoundsAnswer) where
  moved-taken : (boxes places : List (List Float)) → length boxes ≤ length places → (Front-of (Boxes-answers (both true f s) boxes)).count ≡ length boxes
      → map Bounds3f-of_list (take (length boxes) (Places-put (λ a _. Bounds3f-list (BoundsAnswer-bounds a)) (Boxes-answers (both true f s) boxes) places))
      ≡ map (λ b. BoundsAnswer-bounds (s (Bounds3f-of_list b))) boxes
  unfolding Places-put Front-of
  moved-taken [] places h e = refl
  moved-taken (b ∷ boxes) [] h e = absurd (omega (arith, h))
  moved-taken (b ∷ boxes) (p ∷ places) h e = go (f (Bounds3f-of_list b)) (s (Bounds3f-of_list b)) (moved-taken boxes places (omega (arith, h))) e
    where
      rest : List (List Float)
      rest = take (length boxes) (Places-put (λ a _. Bounds3f-list (BoundsAnswer-bounds a)) (Boxes-answers (both true f s) boxes) places)

      go : (x y : BoundsAnswer)
          → ((Front-of (Boxes-answers (both true f s) boxes)).count ≡ length boxes
          → map Bounds3f-of_list rest ≡ map (λ b. BoundsAnswer-bounds (s (Bounds3f-of_list b))) boxes)
          → (Front-of (joined true x y ∷ Boxes-answers (both true f s) boxes)).count ≡ suc (length boxes)
          → BoundsAnswer-bounds (joined true x y) ∷ map Bounds3f-of_list rest
          ≡ BoundsAnswer-bounds y ∷ map (λ b. BoundsAnswer-bounds (s (Bounds3f-of_list b))) boxes
      go (Bounds x) (Bounds y) later k = unfold Front-of in ap (λ (l : List Bounds3f). y ∷ l) (later (omega (arith, k)))
      go (Bounds x) (Refused n) later k = unfold Front-of in absurd (omega (arith, k))
      go (Refused n) y later k = unfold Front-of in absurd (omega (arith, k))

-- As many places as before.
put-length : {A : Type 0} (put : A → List Float → List Float) (items : List A) (places : List (List Float)) → length (Places-put put items places) ≡ length places
unfolding Places-put
put-length put [] places = refl
put-length put (x ∷ items) [] = refl
put-length put (x ∷ items) (p ∷ places) = ap suc (put-length put items places)

pub places-length : (pose : PaddedPose) (boxes : List (List Float)) (front : Front) (zeros : List (List Float)) {places : List (List Float)}
    → places ≡ PaddedPose-places true pose boxes front zeros → length places ≡ length zeros
places-length pose boxes front zeros e = ap length e ∙ put-length _ _ zeros

module _ (boxes rows : List (List Float)) (pose : PaddedPose) (from : Front) {to : Front} (zeros : List (List Float)) {places : List (List Float)} (old : List Bool)
    (room : length boxes ≤ place_count) (t : to ≡ PaddedPose-front pose boxes from) (p : places ≡ PaddedPose-places true pose boxes from zeros) where
  abbrev s : Bounds3f → BoundsAnswer
  s = PaddedPose-enclose_bounds pose

  pose-front : (f : Bounds3f → BoundsAnswer) → from ≡ Front-of (Boxes-answers f boxes) → to ≡ Front-of (Boxes-answers (Poses-answer f (pose ∷ [])) boxes)
  unfolding Poses-answer
  pose-front f e = (take-first f pose boxes room e t p).reached ∙ sym (then-front f s boxes)

  pose-moved : length zeros ≡ place_count → (f : Bounds3f → BoundsAnswer) → from ≡ Front-of (Boxes-answers f boxes) → to.count ≡ length boxes
      → map Bounds3f-of_list (take to.count places) ≡ PaddedPose-moved pose boxes
  pose-moved z f e k =
      let c = take-first f pose boxes room e t p in
      let count = ap (λ (x : Front). x.count) (sym c.reached) ∙ k in
      rw (k, c.places k) (moved-taken f s boxes zeros (omega (arith, room, z)) count)

  pub walks-pose : {new : List Bool} → length zeros ≡ place_count
      → new ≡ named_rows (map Bounds3f-of_list (take to.count places)) (map Bounds3f-of_list rows) old → Walks boxes rows (pose ∷ []) from to old new
  walks-pose {new} z n = record { fronts = pose-front; names = λ f e k. unfold Poses-names in n ∙ ap (λ (l : List Bounds3f). named_rows l (map Bounds3f-of_list rows) old) (pose-moved z f e k) }

  -- More boxes in front than places: there are none so many.
  pub walks-few : place_count < to.count → Walks boxes rows (pose ∷ []) from to old old
  walks-few h = record { fronts = pose-front; names = λ f e k. absurd (omega (arith, h, k, room)) }

-- ---- a pass over the moves
module _ (boxes rows : List (List Float)) (poses : Bool → Bool → AnimatedTransform → List PaddedPose) (moves : List Rows) (from : Front) (old : List Bool) where
  -- The moves before i are taken.
  pub record Passing (i : ℕ) (to : Front) (new : List Bool) : Type 0 where
    pub done : List PaddedPose
    pub whole : done ++ rest_from poses moves i ≡ rest_from poses moves 0
    pub walks : Walks boxes rows done from to old new

  pub passing-first : Passing 0 from old
  passing-first = record { done = []; whole = refl; walks = walks-none }

  pub passing-next : {i : ℕ} {mid to : Front} {middle new : List Bool} → Passing i mid middle → i < length moves
      → Walks boxes rows (own_at poses moves i) mid to middle new → Passing (i + 1) to new
  passing-next {i} p h w = record {
    done = p.done ++ own_at poses moves i;
    whole = append_assoc p.done (own_at poses moves i) (rest_from poses moves (i + 1)) ∙ ap (λ (l : List PaddedPose). p.done ++ l) (sym (rest-next poses moves i h)) ∙ p.whole;
    walks = walks-append p.walks w;
  }

  pub passing-last : {i : ℕ} {to : Front} {new : List Bool} → Passing i to new → length moves ≤ i → Walks boxes rows (rest_from poses moves 0) from to old new
  passing-last {i} {to} {new} p h =
      let all : p.done ≡ rest_from poses moves 0 = sym (append-nil p.done) ∙ ap (λ (l : List PaddedPose). p.done ++ l) (sym (rest-last poses moves i h)) ∙ p.whole in
      subst (λ (l : List PaddedPose). Walks boxes rows l from to old new) all p.walks
