-- Boxes joined one by one, as a loop does it: `joined-first`, `joined-next`. The covers of a move, joined to what is answered before it: `move-refused` where
-- a box in front is refused by it, `move-accepted` where none is.
use Prim.Native.Nat.{ℕ, suc, ◌+◌, ◌≤◌, ◌<◌}
use mathlib.Core.Path.{◌≡◌, refl, sym, ap, subst, ◌∙◌}
use mathlib.Core.Bool.{false}
use mathlib.Core.List.{List, [], ◌∷◌, map}
use native.Mathlib.Omega.{arith}
use lib.ListN.{length, get_or, take, set, length-map}
use lib.Seq.{take_all, length-take-le}
use lib.Ieee.{Float}
use Rattle.lent_arrays.specs.bounds3.declared.Bounds3f.{Bounds3f}
use Rattle.lent_arrays.specs.bounds3.Bounds3f.{Bounds3f-union_bounds}
use Rattle.lent_arrays.specs.bounds3.List.{Bounds3f-list, Bounds3f-of_list}
use Rattle.lent_arrays.specs.transform.declared.BoundsAnswer.{BoundsAnswer}
use Rattle.lent_arrays.specs.transform.declared.BoundsAnswer.TheVariants.{Bounds, Refused}
use Rattle.lent_arrays.specs.transform.Answer.{BoundsAnswer-bounds}
use Rattle.box_front.specs.bounds_query.Query.{BoundsAnswer-union_bounds}
use Rattle.box_front.specs.declared.Front.{Front}
use Rattle.box_front.specs.means.Front.{place_count, Boxes-answers, Front-of, Places-put}
use Rattle.box_front.proofs.Put.{put_next}
use Rattle.box_front.proofs.Counted.{after-accepted, after-refused}
use Rattle.motion_fronts.specs.means.Covered.{Boxes-asked, Places-of, Places-answered, Covered}
use Rattle.motion_fronts.proofs.Front.{joined, both, held, join_front, front_below}
use Rattle.motion_fronts.proofs.Places.{asked-all, places-front, answered-places, answered-size}
use Rattle.chain_fronts.specs.means.Joined.{joined_box, Places-joined}

-- ---- one box after the other
pub joined-first : (moved places : List (List Float)) → places ≡ Places-joined 0 moved places
unfolding Places-put
joined-first moved places = refl

pub joined-next : (moved old : List (List Float)) {new next : List (List Float)} {k : ℕ} → new ≡ Places-joined k moved old → k < length moved
    → next ≡ set new k (joined_box (get_or moved k []) (get_or new k [])) → next ≡ Places-joined (k + 1) moved old
joined-next moved old {new} {next} {k} e l n =
    let one : k + 1 ≡ suc k = omega arith in
    rw (one, n, e) (put_next joined_box moved [] k old l)

abbrev covers : (Bounds3f → BoundsAnswer) → List (List Float) → List (List Float)
covers s boxes = map Bounds3f-list (map BoundsAnswer-bounds (Boxes-answers s boxes))

-- ---- boxes joined to boxes
join-held : (f s : Bounds3f → BoundsAnswer) (boxes old : List (List Float)) → (Front-of (Boxes-answers (both false f s) boxes)).count ≡ length boxes
    → Places-put joined_box (covers s boxes) (held f boxes old) ≡ held (both false f s) boxes old
unfolding Front-of Places-put
join-held f s [] old e = refl
join-held f s (b ∷ boxes) [] e = refl
join-held f s (b ∷ boxes) (p ∷ old) e = go (f (Bounds3f-of_list b)) (s (Bounds3f-of_list b)) (join-held f s boxes old) e
  where
    go : (x y : BoundsAnswer) → ((Front-of (Boxes-answers (both false f s) boxes)).count ≡ length boxes
        → Places-put joined_box (covers s boxes) (held f boxes old) ≡ held (both false f s) boxes old)
        → (Front-of (joined false x y ∷ Boxes-answers (both false f s) boxes)).count ≡ suc (length boxes)
        → Places-put joined_box (Bounds3f-list (BoundsAnswer-bounds y) ∷ covers s boxes) (Bounds3f-list (BoundsAnswer-bounds x) ∷ held f boxes old)
        ≡ Places-put (λ a _. Bounds3f-list (BoundsAnswer-bounds a)) (joined false x y ∷ Boxes-answers (both false f s) boxes) (p ∷ old)
    go (Bounds x) (Bounds y) h k =
        unfold Front-of Places-put BoundsAnswer-union_bounds in
        ap (λ (ps : List (List Float)). Bounds3f-list (Bounds3f-union_bounds x y) ∷ ps) (h (omega (arith, k)))
    go (Bounds x) (Refused n) h k = unfold Front-of BoundsAnswer-union_bounds in absurd (omega (arith, k))
    go (Refused n) y h k = unfold Front-of BoundsAnswer-union_bounds in absurd (omega (arith, k))

-- ---- one more move, which answers the boxes in front by s
pub front-small : {f : Bounds3f → BoundsAnswer} {boxes first old : List (List Float)} {from : Front} → Covered f boxes first old from
    → from.count ≤ length boxes
front-small {f} {boxes} c = let e = ap (λ (x : Front). x.count) c.reached in let l = front_below f boxes in omega (arith, e, l)

-- There are places for all that it answers.
pub move-size : (s : Bounds3f → BoundsAnswer) (boxes : List (List Float)) (n : ℕ) {moved : List (List Float)} → n ≤ length boxes → length boxes ≤ place_count
    → moved ≡ Places-answered (Boxes-answers s (Boxes-asked (take n boxes))) → n ≤ length moved
move-size s boxes n {moved} l room e =
    let size = length-take-le n boxes l in
    let all = asked-all (take n boxes) (omega (arith, l, room, size)) in
    let more = length-map (take n boxes) (λ b. s (Bounds3f-of_list b)) in
    let whole : length moved ≡ place_count = rw (e, all) (answered-size (Boxes-answers s (take n boxes)) (omega (arith, l, room, size, more))) in
    omega (arith, whole, l, room)

module _ (s : Bounds3f → BoundsAnswer) {f : Bounds3f → BoundsAnswer} {boxes first old : List (List Float)} {from got : Front} (room : length boxes ≤ place_count)
    (c : Covered f boxes first old from) (g : got ≡ Front-of (Boxes-answers s (Boxes-asked (take from.count boxes)))) where
  abbrev in_front : List (List Float)
  in_front = take from.count boxes

  size : length in_front ≡ from.count
  size = length-take-le from.count boxes (front-small c)

  asked : Boxes-asked in_front ≡ in_front
  asked = let l = front-small c in let n = size in asked-all in_front (omega (arith, l, n, room))

  answered : got ≡ Front-of (Boxes-answers s in_front)
  answered = g ∙ ap (λ (bs : List (List Float)). Front-of (Boxes-answers s bs)) asked

  pub move-refused : got.count < from.count → Covered (both false f s) boxes first old got
  move-refused h =
      let l = front-small c in
      let n = size in
      let count = ap (λ (x : Front). x.count) answered in
      let more = length-map in_front (λ b. s (Bounds3f-of_list b)) in
      record {
        reached =
            answered ∙ sym (after-refused from (Boxes-answers s in_front) (omega (arith, h, n, more, count)))
            ∙ rw c.reached (sym (join_front false f s boxes));
        places = λ e. absurd (omega (arith, e, h, l));
      }

  pub move-accepted : {moved new : List (List Float)} → moved ≡ Places-answered (Boxes-answers s (Boxes-asked in_front)) → from.count ≤ got.count
      → new ≡ Places-joined from.count moved old → Covered (both false f s) boxes first new from
  move-accepted {moved} {new} m h n = record { reached = reached; places = go }
    where
      all : (Front-of (Boxes-answers s in_front)).count ≡ length (Boxes-answers s in_front)
      all =
          let k = front_below s in_front in
          let z = size in
          let count = ap (λ (x : Front). x.count) answered in
          let more = length-map in_front (λ b. s (Bounds3f-of_list b)) in
          omega (arith, h, k, z, count, more)

      reached : from ≡ Front-of (Boxes-answers (both false f s) boxes)
      reached = sym (after-accepted from (Boxes-answers s in_front) all) ∙ rw c.reached (sym (join_front false f s boxes))

      go : from.count ≡ length boxes → new ≡ held (both false f s) boxes first
      go e =
          let same : in_front ≡ boxes = take_all from.count boxes (omega (arith, e)) in
          let answers = Boxes-answers s boxes in
          let accepted : (Front-of answers).count ≡ length answers =
          subst (λ (bs : List (List Float)). (Front-of (Boxes-answers s bs)).count ≡ length (Boxes-answers s bs)) same all in
          let put : moved ≡ Places-of (map BoundsAnswer-bounds answers) =
          m ∙ ap (λ (bs : List (List Float)). Places-answered (Boxes-answers s bs)) (asked ∙ same) ∙ answered-places answers accepted in
          let more = length-map boxes (λ b. s (Bounds3f-of_list b)) in
          let front : take from.count moved ≡ covers s boxes = rw put (places-front answers from.count (omega (arith, e, more))) in
          n ∙ rw (front, c.places e) (join-held f s boxes first (ap (λ (x : Front). x.count) (sym reached) ∙ e))
