-- From the answers of the boxes, of which the front is known, to that of the set: `set-refused` where one is refused, whose number is not 0 (`set-number`);
-- `set-accepted` where none is.
use Prim.Native.Nat.{ℕ, ◌≤◌, ◌<◌}
use mathlib.Core.Path.{◌≡◌, refl, ap, ◌∙◌}
use mathlib.Core.List.{List, [], ◌∷◌, map, map-map}
use native.Mathlib.Omega.{arith}
use borrow.Author.Tests.{le-ltb}
use lib.ListN.{length, length-map}
use lib.Seq.{take_at}
use lib.Ieee.{Float}
use Rattle.bounds3.specs.declared.Bounds3f.{Bounds3f}
use Rattle.bounds3.specs.Bounds3f.{Bounds3f-union_bounds}
use Rattle.bounds3.specs.List.{Bounds3f-list, Bounds3f-of_list}
use Rattle.lent_arrays.specs.transform.declared.BoundsAnswer.{BoundsAnswer}
use Rattle.lent_arrays.specs.transform.declared.BoundsAnswer.TheVariants.{Bounds, Refused}
use Rattle.lent_arrays.specs.transform.Answer.{BoundsAnswer-bounds}
use Rattle.box_set.specs.bounds_query.Query.{BoundsAnswer-union_bounds}
use Rattle.box_set.proofs.motion_cover.NonZero.{BoundsAnswer-NonZero}
use Rattle.box_set.specs.bounds_answers.UnionAll.{BoundsAnswer-union_all, Each}
use Rattle.box_set.proofs.bounds_answers.UnionAll.{each_map, each_of, union-all-refused}
use Rattle.box_set.specs.Set.{max_boxes, covered, refused, SetAnswer-joined, SetAnswer-of, Boxes-covers}
use Rattle.chain_fronts.specs.box_front.means.Front.{Boxes-answers, Front-of}
use Rattle.chain_fronts.specs.motion_fronts.means.Covered.{Places-of}
use Rattle.chain_fronts.proofs.motion_fronts.Places.{boxes-size}
use Rattle.chain_covers.specs.means.Union.{union_boxes, union_places}

-- ---- one refused
union-refused : (u : Bounds3f) (answers : List BoundsAnswer) → (Front-of answers).count < length answers
    → BoundsAnswer-union_all (Bounds u) answers ≡ Refused (Front-of answers).refusal
unfolding Front-of BoundsAnswer-union_bounds
union-refused u [] h = absurd (omega (arith, h))
union-refused u (Bounds b ∷ answers) h = union-refused (Bounds3f-union_bounds u b) answers (omega (arith, h))
union-refused u (Refused n ∷ answers) h = union-all-refused n answers

of-refused : (answers : List BoundsAnswer) → (Front-of answers).count < length answers → SetAnswer-of answers ≡ refused (Front-of answers).refusal
unfolding Front-of SetAnswer-of
of-refused [] h = absurd (omega (arith, h))
of-refused (Bounds u ∷ answers) h = ap (SetAnswer-joined (Bounds u ∷ answers)) (union-refused u answers (omega (arith, h)))
of-refused (Refused n ∷ answers) h = ap (SetAnswer-joined (Refused n ∷ answers)) (union-all-refused n answers)

number-nonzero : (answers : List BoundsAnswer) → Each BoundsAnswer-NonZero answers → (Front-of answers).count < length answers
    → (Front-of answers).refusal ≡ 0 → ⊥
unfolding Front-of
number-nonzero [] h l = absurd (omega (arith, l))
number-nonzero (Bounds b ∷ answers) (h, hs) l = number-nonzero answers hs (omega (arith, l))
number-nonzero (Refused n ∷ answers) (h, hs) l = h

-- ---- none refused
abbrev lists : List BoundsAnswer → List (List Float)
lists answers = map Bounds3f-list (map BoundsAnswer-bounds answers)

union-accepted : (u : Bounds3f) (answers : List BoundsAnswer) → (Front-of answers).count ≡ length answers
    → BoundsAnswer-union_all (Bounds u) answers ≡ Bounds (union_boxes u (lists answers))
unfolding Front-of BoundsAnswer-union_bounds
union-accepted u [] e = refl
union-accepted u (Bounds b ∷ answers) e = union-accepted (Bounds3f-union_bounds u b) answers (omega (arith, e))
union-accepted u (Refused n ∷ answers) e = absurd (omega (arith, e))

of-accepted : (answers : List BoundsAnswer) → (length answers ≡ 0 → ⊥) → (Front-of answers).count ≡ length answers
    → SetAnswer-of answers ≡ covered (map BoundsAnswer-bounds answers) (union_places (Places-of (map BoundsAnswer-bounds answers)) (length answers))
unfolding Front-of SetAnswer-of
of-accepted [] n e = absurd (n refl)
of-accepted (Refused k ∷ answers) n e = absurd (omega (arith, e))
of-accepted (Bounds u ∷ answers) n e =
    rw (take_at (lists answers) _ (length answers) (boxes-size answers))
    (ap (SetAnswer-joined (Bounds u ∷ answers)) (union-accepted u answers (omega (arith, e))))

-- ---- a set
module _ (cover : Bounds3f → BoundsAnswer) (boxes : List (List Float)) (room : length boxes ≤ max_boxes) where
  abbrev pub answers : List BoundsAnswer
  answers = Boxes-answers cover boxes

  size : length answers ≡ length boxes
  size = length-map boxes (λ b. cover (Bounds3f-of_list b))

  set-of : Boxes-covers cover (map Bounds3f-of_list boxes) ≡ SetAnswer-of answers
  unfolding Boxes-covers
  set-of =
      let n = length-map boxes Bounds3f-of_list in
      rw (le-ltb max_boxes (length (map Bounds3f-of_list boxes)) (omega (arith, n, room)), map-map cover Bounds3f-of_list boxes)

  pub set-refused : (Front-of answers).count < length boxes → Boxes-covers cover (map Bounds3f-of_list boxes) ≡ refused (Front-of answers).refusal
  set-refused h = let n = size in set-of ∙ of-refused answers (omega (arith, h, n))

  pub set-accepted : (length boxes ≡ 0 → ⊥) → (Front-of answers).count ≡ length boxes
      → Boxes-covers cover (map Bounds3f-of_list boxes)
      ≡ covered (map BoundsAnswer-bounds answers) (union_places (Places-of (map BoundsAnswer-bounds answers)) (length boxes))
  set-accepted some e =
      let n = size in
      set-of ∙ of-accepted answers (λ z. some (omega (arith, z, n))) (omega (arith, e, n))
      ∙ ap (λ (k : ℕ). covered (map BoundsAnswer-bounds answers) (union_places (Places-of (map BoundsAnswer-bounds answers)) k)) n

  pub set-number : ((b : Bounds3f) → BoundsAnswer-NonZero (cover b)) → (Front-of answers).count < length boxes → (Front-of answers).refusal ≡ 0 → ⊥
  set-number nonzero h =
      let n = size in
      let each = each_map {P = λ (b : List Float). Unit {0}} BoundsAnswer-NonZero (λ b. cover (Bounds3f-of_list b)) (λ b _. nonzero (Bounds3f-of_list b)) boxes
      (each_of (λ b. tt) boxes) in
      number-nonzero answers each (omega (arith, h, n))
