-- Items put into places one by one, `put_next`. One pose taken over the boxes in front, as a loop takes it: `taking-first`, `taking-next`;
-- and what is left where it stops, `taking-refused`, or at the end, `taking-last`.
use Prim.Native.Nat.{ℕ, zero, suc, ◌+◌, ◌≤◌, ◌<◌}
use mathlib.Core.Path.{◌≡◌, refl, sym, ap, ◌∙◌}
use mathlib.Core.Bool.{Bool, true, false}
use mathlib.Core.List.{List, [], ◌∷◌}
use native.Mathlib.Omega.{arith}
use lib.ListN.{length, get_or, take, set, length-map, get_or-map}
use lib.Seq.{get_or-take, length-take-le, set-get_or}
use lib.Ieee.{Float}
use Rattle.transform.specs.bounds3.declared.Bounds3f.{Bounds3f}
use Rattle.transform.specs.bounds3.List.{Bounds3f-of_list}
use Rattle.transform.specs.declared.BoundsAnswer.{BoundsAnswer}
use Rattle.transform.specs.declared.BoundsAnswer.TheVariants.{Bounds, Refused}
use Rattle.transform.specs.Answer.{BoundsAnswer-refusal}
use Rattle.transform.proofs.Answer.{refused-number}
use Rattle.bounds_query.specs.Query.{BoundsAnswer-union_bounds}
use Rattle.lent_arrays.specs.Arrays.{BoundsAnswer-left}
use Rattle.motion_piece.specs.means.Piece.{PaddedPose}
use Rattle.motion_piece.specs.pose_steps.Enclose.{Pose-enclose_transform_point, Bounds3f-intervals, IntervalVector-bounds}
use Rattle.motion_piece.specs.motion_cover.Cover.{BoundsAnswer-from_enclosure}
use Rattle.motion_piece.proofs.motion_cover.NonZero.{BoundsAnswer-NonZero, tested-nonzero, grow-nonzero}
use Rattle.motion_piece.specs.means.Piece.{PaddedPose-enclose_bounds}
use Rattle.box_front.specs.declared.Front.{Front}
use Rattle.box_front.specs.means.Front.{place_count, box_at, Boxes-answers, Front-of, Front-boxes, Front-after, BoundsAnswer-put, Places-put}
use Rattle.box_front.specs.means.Front.{PaddedPose-front, PaddedPose-places}
use Rattle.box_front.proofs.Counted.{front_from, from_first, from_next, from-refused, from_end, front-boxes, after-accepted, after-refused}

-- ---- one box
pub enclose-nonzero : (pose : PaddedPose) (b : Bounds3f) → BoundsAnswer-NonZero (PaddedPose-enclose_bounds pose b)
unfolding PaddedPose-enclose_bounds BoundsAnswer-from_enclosure
enclose-nonzero pose b =
    let j = Pose-enclose_transform_point pose.matrix.refusal pose.matrix.matrix (Bounds3f-intervals b) in
    grow-nonzero pose.pad _ (tested-nonzero j.refusal (Bounds (IntervalVector-bounds j.vector)) tt)

-- Nothing is put after a refusal.
put_refused : (first : Bool) (n : ℕ) (old : List Float) → BoundsAnswer-put first (Refused n) old ≡ old
unfolding BoundsAnswer-union_bounds
put_refused true n old = refl
put_refused false n old = refl

-- The number of a box joined to another answer is that answer's.
union-number : (x : Bounds3f) (a : BoundsAnswer) → BoundsAnswer-refusal (BoundsAnswer-union_bounds (Bounds x) a) ≡ BoundsAnswer-refusal a
unfolding BoundsAnswer-union_bounds
union-number x (Bounds b) = refl
union-number x (Refused n) = refl

-- The two clauses of a box that is taken: by itself, and joined to what stands in its place. m is the box that was moved.
pub put_first : (first : Bool) (r : ℕ) (new old : List Float) (m a : BoundsAnswer) → first ≡ true → m ≡ a
    → r ≡ BoundsAnswer-refusal m → new ≡ BoundsAnswer-left m old
    → (r ≡ BoundsAnswer-refusal a) × (new ≡ BoundsAnswer-put first a old)
put_first first r new old m a f e p q = rw (f, ← e) (p, q)

pub put-joined : (first : Bool) (r : ℕ) (new old : List Float) (m u a : BoundsAnswer)
    → first ≡ false → m ≡ a → u ≡ BoundsAnswer-union_bounds (Bounds (Bounds3f-of_list old)) m
    → r ≡ BoundsAnswer-refusal u → new ≡ BoundsAnswer-left u old
    → (r ≡ BoundsAnswer-refusal a) × (new ≡ BoundsAnswer-put first a old)
put-joined first r new old m u a f e j p q =
    (p ∙ ap BoundsAnswer-refusal j ∙ union-number (Bounds3f-of_list old) m ∙ ap BoundsAnswer-refusal e, rw (f, ← e, ← j) q)

-- ---- item by item
pub put_next : {A : Type 0} (put : A → List Float → List Float) (items : List A) (none : A) (k : ℕ) (places : List (List Float)) → k < length items
    → set (Places-put put (take k items) places) k (put (get_or items k none) (get_or (Places-put put (take k items) places) k []))
    ≡ Places-put put (take (suc k) items) places
unfolding Places-put
put_next put [] none k places h = absurd (omega (arith, h))
put_next put (x ∷ items) none zero [] h = refl
put_next put (x ∷ items) none zero (p ∷ places) h = refl
put_next put (x ∷ items) none (suc k) [] h = refl
put_next put (x ∷ items) none (suc k) (p ∷ places) h =
    ap (λ (ps : List (List Float)). put x p ∷ ps) (put_next put items none k places (omega (arith, h)))

-- ---- a pose over the boxes in front, in order
-- There is none.
pub taken_none : (first : Bool) (pose : PaddedPose) (boxes : List (List Float)) (front : Front) (places : List (List Float)) → Front-boxes front boxes ≡ []
    → (front ≡ PaddedPose-front pose boxes front) × (places ≡ PaddedPose-places first pose boxes front places)
unfolding Front-of Front-after Places-put
taken_none first pose boxes front places e = rw e (refl, refl)

module _ (first : Bool) (pose : PaddedPose) (boxes : List (List Float)) (front : Front) where
  abbrev in_front : List (List Float)
  in_front = take front.count boxes

  abbrev answers : List BoundsAnswer
  answers = Boxes-answers (PaddedPose-enclose_bounds pose) in_front

  abbrev answer_at : ℕ → BoundsAnswer
  answer_at i = PaddedPose-enclose_bounds pose (box_at boxes i)

  -- The pose is taken over the first k boxes.
  pub record Taking (old new : List (List Float)) (k : ℕ) : Type 0 where
    pub counted : front_from (PaddedPose-enclose_bounds pose) in_front k ≡ Front-of answers
    pub put : new ≡ Places-put (BoundsAnswer-put first) (take k answers) old

  pub taking-first : (old : List (List Float)) → Taking old old 0
  unfolding Places-put
  taking-first old = record { counted = from_first (PaddedPose-enclose_bounds pose) in_front; put = refl }

  -- What is left, and what is put next.
  module _ {old new : List (List Float)} {k : ℕ} (t : Taking old new k) where
    abbrev Left : List (List Float) → Front → Type 0
    Left next to = (to ≡ PaddedPose-front pose boxes front) × (next ≡ PaddedPose-places first pose boxes front old)

    pub taking-next : {next : List (List Float)} → k < front.count → front.count ≤ length boxes → BoundsAnswer-refusal (answer_at k) ≡ 0
        → next ≡ set new k (BoundsAnswer-put first (answer_at k) (get_or new k [])) → Taking old next (k + 1)
    taking-next {next} h l z e =
        let size : length in_front ≡ front.count = length-take-le front.count boxes l in
        let same = get_or-take front.count boxes k [] h in
        let item : get_or answers k (PaddedPose-enclose_bounds pose (Bounds3f-of_list [])) ≡ answer_at k =
        rw (get_or-map (λ b. PaddedPose-enclose_bounds pose (Bounds3f-of_list b)) in_front k [], same) in
        let more = length-map in_front (λ b. PaddedPose-enclose_bounds pose (Bounds3f-of_list b)) in
        let one : k + 1 ≡ suc k = omega arith in
        record {
          counted = from_next (PaddedPose-enclose_bounds pose) in_front (enclose-nonzero pose) (omega (arith, h, size)) (rw same z) ∙ t.counted;
          put = rw (one, e, t.put, ← item) (put_next (BoundsAnswer-put first) answers _ k old (omega (arith, h, size, more)));
        }

    -- The box at k is refused, and its place is as it was.
    pub taking-refused : {next : List (List Float)} {n : ℕ} → k < front.count → front.count ≤ length boxes → front.count ≤ place_count
        → n ≡ BoundsAnswer-refusal (answer_at k) → (n ≡ 0 → ⊥)
        → next ≡ set new k (BoundsAnswer-put first (answer_at k) (get_or new k []))
        → Left next (record { count = k; refusal = n })
    taking-refused {next} {n} h l m e z w =
        let size : length in_front ≡ front.count = length-take-le front.count boxes l in
        let same = get_or-take front.count boxes k [] h in
        let more = length-map in_front (λ b. PaddedPose-enclose_bounds pose (Bounds3f-of_list b)) in
        let a : answer_at k ≡ Refused n = rw e (refused-number (answer_at k) (rw (← e) z)) in
        let whole : Front-of answers ≡ record { count = k; refusal = n } =
        sym t.counted ∙ from-refused (PaddedPose-enclose_bounds pose) in_front (omega (arith, h, size)) (rw same e) z in
        let count : (Front-of answers).count ≡ k = ap (λ (f : Front). f.count) whole in
        let kept : next ≡ new = rw (w, a, put_refused first n (get_or new k [])) (set-get_or new k []) in
        rw (front-boxes front boxes l m)
        (sym (after-refused front answers (omega (arith, h, size, more, count)) ∙ whole), rw (count, kept) t.put)

    pub taking-last : k ≡ front.count → front.count ≤ length boxes → front.count ≤ place_count → Left new front
    taking-last e l m =
        let size : length in_front ≡ front.count = length-take-le front.count boxes l in
        let more = length-map in_front (λ b. PaddedPose-enclose_bounds pose (Bounds3f-of_list b)) in
        let whole : Front-of answers ≡ record { count = k; refusal = 0 } =
        sym t.counted ∙ from_end (PaddedPose-enclose_bounds pose) in_front (omega (arith, e, size)) refl in
        let count : (Front-of answers).count ≡ k = ap (λ (f : Front). f.count) whole in
        rw (front-boxes front boxes l m)
        (sym (after-accepted front answers (omega (arith, e, size, more, count))), rw count t.put)
