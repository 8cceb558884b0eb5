-- What is left in the places at the end, by what stands there: `left-none` where more boxes are lent than there are places, `left-refused`, `left-accepted`;
-- and what that says of the places: `answered-places`, `answered-none`, `answered-size`, `answered-covered`.
use Prim.Native.Nat.{ℕ, zero, suc, ◌+◌, ◌-◌, ◌≤◌, ◌<◌}
use mathlib.Core.Path.{◌≡◌, refl, sym, ap, ◌∙◌}
use mathlib.Core.Bool.{Bool, true, false, cond}
use mathlib.Core.List.{List, [], ◌∷◌, ◌++◌, map}
use native.Mathlib.Omega.{arith}
use borrow.Author.Tests.{le-ltb, lt-ltb, eq-eqb, ne_eqb}
use lib.Dec.{eqb}
use lib.ListN.{length, take, replicate, length-map, length-append, length-replicate}
use lib.Seq.{take_at}
use lib.Ieee.{Float}
use Rattle.motion_pad.specs.matrix4x4.Rows.{positive_zero}
use Rattle.motion_pad.specs.bounds3.declared.Bounds3f.{Bounds3f}
use Rattle.motion_pad.specs.bounds3.List.{Bounds3f-list, Bounds3f-of_list}
use Rattle.motion_pad.specs.transform.declared.BoundsAnswer.{BoundsAnswer}
use Rattle.motion_pad.specs.transform.Answer.{BoundsAnswer-bounds}
use Rattle.box_front.specs.declared.Front.{Front}
use Rattle.box_front.specs.means.Front.{place_count, Boxes-answers, Front-of, Places-put}
use Rattle.motion_fronts.specs.means.Covered.{Boxes-asked, Places-of, Places-answered, Covered}
use Rattle.motion_fronts.proofs.Front.{front_below}

abbrev zeros : ℕ → List (List Float)
zeros n = replicate n (replicate 6 positive_zero)

-- ---- the boxes that are asked
pub asked-all : (boxes : List (List Float)) → length boxes ≤ place_count → Boxes-asked boxes ≡ boxes
unfolding Boxes-asked
asked-all boxes h = rw (le-ltb place_count (length boxes) h)

asked-none : (boxes : List (List Float)) → place_count < length boxes → Boxes-asked boxes ≡ []
unfolding Boxes-asked
asked-none boxes h = rw (lt-ltb place_count (length boxes) h)

-- ---- the places
put-zeros : (answers : List BoundsAnswer) (n k : ℕ) → length answers + k ≡ n
    → Places-put (λ a _. Bounds3f-list (BoundsAnswer-bounds a)) answers (zeros n) ≡ map Bounds3f-list (map BoundsAnswer-bounds answers) ++ zeros k
unfolding Places-put
put-zeros [] n k e = let same : n ≡ k = omega (arith, e) in ap zeros same
put-zeros (a ∷ answers) zero k e = absurd (omega (arith, e))
put-zeros (a ∷ answers) (suc n) k e =
    ap (λ (ps : List (List Float)). Bounds3f-list (BoundsAnswer-bounds a) ∷ ps) (put-zeros answers n k (omega (arith, e)))

-- ---- the answers in their places
pub boxes-size : (answers : List BoundsAnswer) → length (map Bounds3f-list (map BoundsAnswer-bounds answers)) ≡ length answers
boxes-size answers = length-map (map BoundsAnswer-bounds answers) Bounds3f-list ∙ length-map answers BoundsAnswer-bounds

pub places-front : (answers : List BoundsAnswer) (n : ℕ) → length answers ≡ n
    → take n (Places-of (map BoundsAnswer-bounds answers)) ≡ map Bounds3f-list (map BoundsAnswer-bounds answers)
places-front answers n e = take_at (map Bounds3f-list (map BoundsAnswer-bounds answers)) _ n (boxes-size answers ∙ e)

pub answered-places : (answers : List BoundsAnswer) → (Front-of answers).count ≡ length answers
    → Places-answered answers ≡ Places-of (map BoundsAnswer-bounds answers)
unfolding Places-answered
answered-places answers e = rw (eq-eqb (Front-of answers).count (length answers) e)

pub answered-none : (answers : List BoundsAnswer) → ((Front-of answers).count ≡ length answers → ⊥) → Places-answered answers ≡ Places-of []
unfolding Places-answered
answered-none answers h = rw (ne_eqb (Front-of answers).count (length answers) h)

pub answered-size : (answers : List BoundsAnswer) → length answers ≤ place_count → length (Places-answered answers) ≡ place_count
unfolding Places-answered
answered-size answers l = go (eqb (Front-of answers).count (length answers))
  where
    go : (t : Bool) → length (Places-of (cond t (map BoundsAnswer-bounds answers) [])) ≡ place_count
    go true =
        let n = length-map answers BoundsAnswer-bounds in
        let m = boxes-size answers in
        let k = place_count - length (map BoundsAnswer-bounds answers) in
        let z = length-replicate k (replicate 6 positive_zero) in
        rw (length-append (map Bounds3f-list (map BoundsAnswer-bounds answers)) (zeros k)) (omega (arith, n, m, z, l))
    go false = refl

-- ---- what a query of single boxes leaves of many
module _ (answer : Bounds3f → BoundsAnswer) (boxes : List (List Float)) where
  abbrev answers : List BoundsAnswer
  answers = Boxes-answers answer boxes

  abbrev pub Left : Front → List (List Float) → Type 0
  Left front places =
      (front ≡ Front-of (Boxes-answers answer (Boxes-asked boxes))) × (places ≡ Places-answered (Boxes-answers answer (Boxes-asked boxes)))

  pub left-none : place_count < length boxes → Left (record { count = 0; refusal = 0 }) (Places-of [])
  unfolding Front-of Places-answered
  left-none h = rw (asked-none boxes h) (refl, refl)

  pub answered-covered : {new : List (List Float)} {front : Front} → length boxes ≤ place_count → Left front new → Covered answer boxes (Places-of []) new front
  answered-covered {new} {front} l (e, n) =
      let all = asked-all boxes l in
      let reached : front ≡ Front-of answers = rw all at e in
      let size = length-map boxes (λ b. answer (Bounds3f-of_list b)) in
      let more = length-map answers BoundsAnswer-bounds in
      let count = ap (λ (f : Front). f.count) reached in
      let put = put-zeros answers place_count (place_count - length (map BoundsAnswer-bounds answers)) (omega (arith, size, more, l)) in
      record { reached = reached; places = λ h. rw all at n ∙ answered-places answers (omega (arith, h, count, size)) ∙ sym put }

  pub left-refused : {new : List (List Float)} {front : Front} → length boxes ≤ place_count → Covered answer boxes (Places-of []) new front
      → front.count < length boxes → Left front (Places-of [])
  left-refused {new} {front} l c h =
      let size = length-map boxes (λ b. answer (Bounds3f-of_list b)) in
      let count = ap (λ (f : Front). f.count) c.reached in
      rw (asked-all boxes l) (c.reached, sym (answered-none answers (λ e. absurd (omega (arith, h, count, size, e)))))

  pub left-accepted : {new : List (List Float)} {front : Front} → length boxes ≤ place_count → Covered answer boxes (Places-of []) new front
      → length boxes ≤ front.count → Left front new
  left-accepted {new} {front} l c h =
      let size = length-map boxes (λ b. answer (Bounds3f-of_list b)) in
      let more = length-map answers BoundsAnswer-bounds in
      let count = ap (λ (f : Front). f.count) c.reached in
      let below = front_below answer boxes in
      let put = put-zeros answers place_count (place_count - length (map BoundsAnswer-bounds answers)) (omega (arith, size, more, l)) in
      rw (asked-all boxes l)
      (c.reached, c.places (omega (arith, h, count, below)) ∙ put ∙ sym (answered-places answers (omega (arith, h, count, size, below))))
