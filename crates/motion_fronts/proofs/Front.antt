-- The front of answers that are joined to others is the front of these, answered anew: `join_front`. So a pose that is taken over the boxes in front joins its
-- answers to theirs: `take-first`, `take_next`. Equal answers have the same front: `covered_same`.
use Prim.Native.Nat.{ℕ, suc, ◌≤◌, ◌<◌}
use mathlib.Core.Path.{◌≡◌, refl, sym, ap, subst, ◌∙◌}
use mathlib.Core.Bool.{Bool, true, false, cond}
use mathlib.Core.List.{List, [], ◌∷◌}
use native.Mathlib.Omega.{arith}
use borrow.Author.Tests.{eqb-true, eqb-false}
use lib.Dec.{eqb}
use lib.ListN.{length, take, length-map}
use lib.Seq.{take_all}
use lib.Ieee.{Float}
use Rattle.motion_pad.specs.bounds3.declared.Bounds3f.{Bounds3f}
use Rattle.motion_pad.specs.bounds3.Bounds3f.{Bounds3f-union_bounds}
use Rattle.motion_pad.specs.bounds3.List.{Bounds3f-list, Bounds3f-of_list}
use Rattle.motion_pad.specs.transform.declared.BoundsAnswer.{BoundsAnswer}
use Rattle.motion_pad.specs.transform.declared.BoundsAnswer.TheVariants.{Bounds, Refused}
use Rattle.motion_pad.specs.transform.Answer.{BoundsAnswer-bounds}
use Rattle.motion_pad.specs.bounds_query.Query.{BoundsAnswer-union_bounds}
use Rattle.motion_piece.specs.means.Piece.{PaddedPose}
use Rattle.motion_piece.specs.means.Piece.{PaddedPose-enclose_bounds}
use Rattle.box_front.specs.declared.Front.{Front}
use Rattle.box_front.specs.means.Front.{place_count, Boxes-answers, Front-of, Front-after, BoundsAnswer-put, Places-put, PaddedPose-front, PaddedPose-places}
use Rattle.box_front.proofs.Counted.{front-boxes, after-accepted, after-refused}
use Rattle.motion_fronts.specs.means.Covered.{Covered}

-- ---- two answers
-- The second, unless the first is refused.
abbrev pub BoundsAnswer-after : BoundsAnswer → BoundsAnswer → BoundsAnswer
BoundsAnswer-after (Bounds x) s = s
BoundsAnswer-after (Refused n) s = Refused n

-- The first of a box's answers stands by itself, a later one is joined to those before it.
abbrev pub joined : Bool → BoundsAnswer → BoundsAnswer → BoundsAnswer
joined first a s = cond first (BoundsAnswer-after a s) (BoundsAnswer-union_bounds a s)

-- ---- the front of an answer and those behind it
abbrev pub next : Front → Front
next front = record { count = suc front.count; refusal = front.refusal }

pub count-below : (answers : List BoundsAnswer) → (Front-of answers).count ≤ length answers
unfolding Front-of
count-below [] = omega arith
count-below (Bounds b ∷ answers) = let h = count-below answers in omega (arith, h)
count-below (Refused n ∷ answers) = omega arith

next-after : (front : Front) (x : Bounds3f) (answers : List BoundsAnswer) → Front-after (next front) (Bounds x ∷ answers) ≡ next (Front-after front answers)
unfolding Front-of
next-after front x answers =
    go (eqb (Front-of answers).count (length answers)) (eqb-true (Front-of answers).count (length answers))
    (eqb-false (Front-of answers).count (length answers))
  where
    go : (t : Bool) → (t ≡ true → (Front-of answers).count ≡ length answers) → (t ≡ false → (Front-of answers).count ≡ length answers → ⊥)
        → Front-after (next front) (Bounds x ∷ answers) ≡ next (Front-after front answers)
    go true f g = rw (after-accepted front answers (f refl)) (unfold Front-of in after-accepted (next front) (Bounds x ∷ answers) (ap suc (f refl)))
    go false f g =
        let h = count-below answers in
        let l : (Front-of answers).count < length answers = omega (arith, h, g refl) in
        rw (after-refused front answers l) (unfold Front-of in after-refused (next front) (Bounds x ∷ answers) (omega (arith, l)))

joined-next : (first : Bool) (x : Bounds3f) (a : BoundsAnswer) (front : Front) (both answers : List BoundsAnswer) → Front-of both ≡ Front-after front answers
    → Front-of (joined first (Bounds x) a ∷ both) ≡ Front-after (next front) (a ∷ answers)
unfolding Front-of BoundsAnswer-union_bounds
joined-next true x (Bounds y) front both answers e = ap next e ∙ sym (next-after front y answers)
joined-next false x (Bounds y) front both answers e = ap next e ∙ sym (next-after front y answers)
joined-next true x (Refused n) front both answers e = sym (after-refused (next front) (Refused n ∷ answers) (omega arith))
joined-next false x (Refused n) front both answers e = sym (after-refused (next front) (Refused n ∷ answers) (omega arith))

joined-stop : (first : Bool) (n : ℕ) (a : BoundsAnswer) (both : List BoundsAnswer)
    → Front-of (joined first (Refused n) a ∷ both) ≡ Front-after (record { count = 0; refusal = n }) []
unfolding Front-of Front-after BoundsAnswer-union_bounds
joined-stop true n a both = refl
joined-stop false n a both = refl

-- ---- the front of a set
module _ (first : Bool) (f s : Bounds3f → BoundsAnswer) where
  abbrev pub both : Bounds3f → BoundsAnswer
  both b = joined first (f b) (s b)

  pub join_front : (boxes : List (List Float)) → Front-of (Boxes-answers both boxes)
      ≡ Front-after (Front-of (Boxes-answers f boxes)) (Boxes-answers s (take (Front-of (Boxes-answers f boxes)).count boxes))
  unfolding Front-of Front-after
  join_front [] = refl
  join_front (b ∷ boxes) = go (f (Bounds3f-of_list b)) (join_front boxes)
    where
      go : (x : BoundsAnswer) → Front-of (Boxes-answers both boxes)
          ≡ Front-after (Front-of (Boxes-answers f boxes)) (Boxes-answers s (take (Front-of (Boxes-answers f boxes)).count boxes))
          → Front-of (joined first x (s (Bounds3f-of_list b)) ∷ Boxes-answers both boxes)
          ≡ Front-after (Front-of (x ∷ Boxes-answers f boxes)) (Boxes-answers s (take (Front-of (x ∷ Boxes-answers f boxes)).count (b ∷ boxes)))
      go (Bounds x) e =
          unfold Front-of in
          joined-next first x (s (Bounds3f-of_list b)) (Front-of (Boxes-answers f boxes)) (Boxes-answers both boxes)
          (Boxes-answers s (take (Front-of (Boxes-answers f boxes)).count boxes)) e
      go (Refused n) e = unfold Front-of in joined-stop first n (s (Bounds3f-of_list b)) (Boxes-answers both boxes)

  -- Where none is refused, no part of it is.
  pub both-accepted : (boxes : List (List Float)) → (Front-of (Boxes-answers both boxes)).count ≡ length boxes
      → ((Front-of (Boxes-answers f boxes)).count ≡ length boxes) × ((Front-of (Boxes-answers s boxes)).count ≡ length boxes)
  unfolding Front-of
  both-accepted [] e = (refl, refl)
  both-accepted (b ∷ boxes) e = go first (f (Bounds3f-of_list b)) (s (Bounds3f-of_list b)) (both-accepted boxes) e
    where
      go : (t : Bool) (x y : BoundsAnswer) → ((Front-of (Boxes-answers both boxes)).count ≡ length boxes
          → ((Front-of (Boxes-answers f boxes)).count ≡ length boxes) × ((Front-of (Boxes-answers s boxes)).count ≡ length boxes))
          → (Front-of (joined t x y ∷ Boxes-answers both boxes)).count ≡ suc (length boxes)
          → ((Front-of (x ∷ Boxes-answers f boxes)).count ≡ suc (length boxes)) × ((Front-of (y ∷ Boxes-answers s boxes)).count ≡ suc (length boxes))
      go true (Bounds x) (Bounds y) h k = unfold Front-of in let (p, q) = h (omega (arith, k)) in (ap suc p, ap suc q)
      go false (Bounds x) (Bounds y) h k = unfold Front-of BoundsAnswer-union_bounds in let (p, q) = h (omega (arith, k)) in (ap suc p, ap suc q)
      go true (Bounds x) (Refused n) h k = unfold Front-of in absurd (omega (arith, k))
      go false (Bounds x) (Refused n) h k = unfold Front-of BoundsAnswer-union_bounds in absurd (omega (arith, k))
      go true (Refused n) y h k = unfold Front-of in absurd (omega (arith, k))
      go false (Refused n) y h k = unfold Front-of BoundsAnswer-union_bounds in absurd (omega (arith, k))

-- ---- the places
-- Every answer in its place.
abbrev pub held : (Bounds3f → BoundsAnswer) → List (List Float) → List (List Float) → List (List Float)
held answer boxes old = Places-put (λ a _. Bounds3f-list (BoundsAnswer-bounds a)) (Boxes-answers answer boxes) old

module _ (f s : Bounds3f → BoundsAnswer) where
  pub put_first : (boxes old : List (List Float)) → (Front-of (Boxes-answers (both true f s) boxes)).count ≡ length boxes
      → Places-put (BoundsAnswer-put true) (Boxes-answers s boxes) old ≡ held (both true f s) boxes old
  unfolding Front-of Places-put
  put_first [] old e = refl
  put_first (b ∷ boxes) [] e = refl
  put_first (b ∷ boxes) (p ∷ old) e = go (f (Bounds3f-of_list b)) (s (Bounds3f-of_list b)) (put_first boxes old) e
    where
      go : (x y : BoundsAnswer) → ((Front-of (Boxes-answers (both true f s) boxes)).count ≡ length boxes
          → Places-put (BoundsAnswer-put true) (Boxes-answers s boxes) old ≡ held (both true f s) boxes old)
          → (Front-of (joined true x y ∷ Boxes-answers (both true f s) boxes)).count ≡ suc (length boxes)
          → Places-put (BoundsAnswer-put true) (y ∷ Boxes-answers s boxes) (p ∷ old)
          ≡ Places-put (λ a _. Bounds3f-list (BoundsAnswer-bounds a)) (joined true x y ∷ Boxes-answers (both true f s) boxes) (p ∷ old)
      go (Bounds x) (Bounds y) h k = unfold Front-of Places-put in ap (λ (ps : List (List Float)). Bounds3f-list y ∷ ps) (h (omega (arith, k)))
      go (Bounds x) (Refused n) h k = unfold Front-of in absurd (omega (arith, k))
      go (Refused n) y h k = unfold Front-of in absurd (omega (arith, k))

  pub put_next : (boxes old : List (List Float)) → (Front-of (Boxes-answers (both false f s) boxes)).count ≡ length boxes
      → Places-put (BoundsAnswer-put false) (Boxes-answers s boxes) (held f boxes old) ≡ held (both false f s) boxes old
  unfolding Front-of Places-put
  put_next [] old e = refl
  put_next (b ∷ boxes) [] e = refl
  put_next (b ∷ boxes) (p ∷ old) e = go (f (Bounds3f-of_list b)) (s (Bounds3f-of_list b)) (put_next boxes old) e
    where
      go : (x y : BoundsAnswer) → ((Front-of (Boxes-answers (both false f s) boxes)).count ≡ length boxes
          → Places-put (BoundsAnswer-put false) (Boxes-answers s boxes) (held f boxes old) ≡ held (both false f s) boxes old)
          → (Front-of (joined false x y ∷ Boxes-answers (both false f s) boxes)).count ≡ suc (length boxes)
          → Places-put (BoundsAnswer-put false) (y ∷ Boxes-answers s boxes) (Bounds3f-list (BoundsAnswer-bounds x) ∷ held f boxes old)
          ≡ Places-put (λ a _. Bounds3f-list (BoundsAnswer-bounds a)) (joined false x y ∷ Boxes-answers (both false f s) boxes) (p ∷ old)
      go (Bounds x) (Bounds y) h k =
          unfold Front-of Places-put BoundsAnswer-union_bounds in
          ap (λ (ps : List (List Float)). Bounds3f-list (Bounds3f-union_bounds x y) ∷ ps) (h (omega (arith, k)))
      go (Bounds x) (Refused n) h k = unfold Front-of BoundsAnswer-union_bounds in absurd (omega (arith, k))
      go (Refused n) y h k = unfold Front-of BoundsAnswer-union_bounds in absurd (omega (arith, k))

-- ---- what stands so far
pub covered_same : {f g : Bounds3f → BoundsAnswer} {boxes old new : List (List Float)} {front : Front}
    → ((b : Bounds3f) → f b ≡ g b) → Covered f boxes old new front → Covered g boxes old new front
covered_same {f} {g} {boxes} {old} {new} {front} e c =
    let same : f ≡ g = λ i b. e b i in
    subst (λ (h : Bounds3f → BoundsAnswer). Covered h boxes old new front) same c

pub front_below : (f : Bounds3f → BoundsAnswer) (boxes : List (List Float)) → (Front-of (Boxes-answers f boxes)).count ≤ length boxes
front_below f boxes =
    let h = count-below (Boxes-answers f boxes) in
    let l = length-map boxes (λ b. f (Bounds3f-of_list b)) in
    omega (arith, h, l)

-- A pose over the boxes in front.
module _ (f : Bounds3f → BoundsAnswer) (pose : PaddedPose) (boxes : List (List Float)) (room : length boxes ≤ place_count) where
  abbrev s : Bounds3f → BoundsAnswer
  s = PaddedPose-enclose_bounds pose

  taken-front : (first : Bool) {from to : Front} → from ≡ Front-of (Boxes-answers f boxes) → to ≡ PaddedPose-front pose boxes from
      → to ≡ Front-of (Boxes-answers (both first f s) boxes)
  taken-front first {from} {to} e t =
      let l = front_below f boxes in
      t ∙ rw (e, front-boxes (Front-of (Boxes-answers f boxes)) boxes l (omega (arith, l, room)), ← join_front first f s boxes)

  -- Where none is refused, all are put.
  taken_places : (first : Bool) {from : Front} (places : List (List Float)) → from ≡ Front-of (Boxes-answers f boxes)
      → (Front-of (Boxes-answers (both first f s) boxes)).count ≡ length boxes
      → PaddedPose-places first pose boxes from places ≡ Places-put (BoundsAnswer-put first) (Boxes-answers s boxes) places
  taken_places first {from} places e h =
      let l = front_below f boxes in
      let (p, q) = both-accepted first f s boxes h in
      let size = length-map boxes (λ b. s (Bounds3f-of_list b)) in
      rw (
        e,
        front-boxes (Front-of (Boxes-answers f boxes)) boxes l (omega (arith, l, room)),
        p,
        take_all (length boxes) boxes (omega arith),
        q,
        take_all (length boxes) (Boxes-answers s boxes) (omega (arith, size)),
      )

  pub take-first : {from to : Front} {old new : List (List Float)} → from ≡ Front-of (Boxes-answers f boxes) → to ≡ PaddedPose-front pose boxes from
      → new ≡ PaddedPose-places true pose boxes from old → Covered (both true f s) boxes old new to
  take-first {from} {to} {old} {new} e t n =
      let reached = taken-front true e t in
      record {
        reached = reached;
        places = λ h. let k = ap (λ (x : Front). x.count) (sym reached) ∙ h in n ∙ taken_places true old e k ∙ put_first f s boxes old k;
      }

  pub take_next : {from to : Front} {first old new : List (List Float)} → Covered f boxes first old from → to ≡ PaddedPose-front pose boxes from
      → new ≡ PaddedPose-places false pose boxes from old → Covered (both false f s) boxes first new to
  take_next {from} {to} {first} {old} {new} c t n =
      let reached = taken-front false c.reached t in
      record { reached = reached; places = λ h. go (ap (λ (x : Front). x.count) (sym reached) ∙ h) }
    where
      go : (Front-of (Boxes-answers (both false f s) boxes)).count ≡ length boxes → new ≡ held (both false f s) boxes first
      go k =
          let (p, q) = both-accepted false f s boxes k in
          let before : old ≡ held f boxes first = c.places (ap (λ (x : Front). x.count) c.reached ∙ p) in
          n ∙ taken_places false old c.reached k ∙ rw before (put_next f s boxes first k)
