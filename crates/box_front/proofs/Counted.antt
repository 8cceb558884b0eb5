-- The front of a set as a loop counts it, box by box: the whole is what is counted and the front of what is left (`front_from`). It goes on where a box is
-- accepted (`from_next`), stops at a refused one (`from-refused`) and at the end (`from_end`). And the boxes in front, where all fit: `front-boxes`.
use Prim.Native.Nat.{ℕ, suc, ◌+◌, ◌≤◌, ◌<◌}
use mathlib.Core.Path.{◌≡◌, refl, sym, ap}
use mathlib.Core.Bool.{Bool, true, false, cond}
use mathlib.Core.List.{List, []}
use native.Mathlib.Omega.{arith}
use borrow.Author.Tests.{le-ltb, lt-ltb, eq-eqb, ne_eqb, eqb-true}
use lib.Dec.{eqb}
use lib.ListN.{length, take, drop, drop_of_length-le}
use lib.Seq.{drop-cons}
use lib.Ieee.{Float}
use Rattle.transform.specs.bounds3.declared.Bounds3f.{Bounds3f}
use Rattle.transform.specs.declared.BoundsAnswer.{BoundsAnswer}
use Rattle.transform.specs.declared.BoundsAnswer.TheVariants.{Bounds, Refused}
use Rattle.transform.specs.Answer.{BoundsAnswer-refusal}
use Rattle.transform.proofs.Answer.{refused-number}
use Rattle.bounds_query.specs.Query.{cover_refusal}
use Rattle.motion_piece.proofs.motion_cover.NonZero.{BoundsAnswer-NonZero, nonzero-box, tested-nonzero}
use Rattle.box_front.specs.declared.Front.{Front}
use Rattle.box_front.specs.means.Front.{place_count, box_at, Boxes-answers, Bounds3f-tested, Front-of, Front-boxes, Front-after}

-- ---- the tests of a box
pub tested-number : (d : ℕ) (b : Bounds3f) → BoundsAnswer-refusal (Bounds3f-tested d b) ≡ cover_refusal b d
tested-number d b = go (eqb (cover_refusal b d) 0) (eqb-true (cover_refusal b d) 0)
  where
    go : (t : Bool) → (t ≡ true → cover_refusal b d ≡ 0) → BoundsAnswer-refusal (cond t (Bounds b) (Refused (cover_refusal b d))) ≡ cover_refusal b d
    go true f = sym (f refl)
    go false f = refl

pub box-tested : (d : ℕ) (b : Bounds3f) → BoundsAnswer-NonZero (Bounds3f-tested d b)
box-tested d b = tested-nonzero (cover_refusal b d) (Bounds b) tt

-- ---- box by box
abbrev at : ℕ → Front → Front
at k front = record { count = k + front.count; refusal = front.refusal }

module _ (answer : Bounds3f → BoundsAnswer) (boxes : List (List Float)) where
  -- k boxes are counted.
  abbrev pub front_from : ℕ → Front
  front_from k = at k (Front-of (Boxes-answers answer (drop k boxes)))

  pub from_first : front_from 0 ≡ Front-of (Boxes-answers answer boxes)
  from_first = ap (λ (n : ℕ). record { count = n; refusal = (Front-of (Boxes-answers answer boxes)).refusal }) (omega arith)

  pub from_next : ((b : Bounds3f) → BoundsAnswer-NonZero (answer b)) → {k : ℕ} → k < length boxes → BoundsAnswer-refusal (answer (box_at boxes k)) ≡ 0
      → front_from (k + 1) ≡ front_from k
  unfolding Front-of
  from_next nonzero {k} h e =
      let n : k + 1 ≡ suc k = omega arith in
      let rest = Front-of (Boxes-answers answer (drop (suc k) boxes)) in
      let count : suc k + rest.count ≡ k + suc rest.count = omega arith in
      rw (n, drop-cons boxes k [] h, nonzero-box (answer (box_at boxes k)) (nonzero (box_at boxes k)) e)
      (ap (λ (c : ℕ). record { count = c; refusal = rest.refusal }) count)

  pub from-refused : {k n : ℕ} → k < length boxes → n ≡ BoundsAnswer-refusal (answer (box_at boxes k)) → (n ≡ 0 → ⊥)
      → front_from k ≡ record { count = k; refusal = n }
  unfolding Front-of
  from-refused {k} {n} h e z =
      let count : k + 0 ≡ k = omega arith in
      let refused : answer (box_at boxes k) ≡ Refused n = rw e (refused-number (answer (box_at boxes k)) (rw (← e) z)) in
      rw (drop-cons boxes k [] h, refused) (ap (λ (c : ℕ). record { count = c; refusal = n }) count)

  pub from_end : {k n : ℕ} → length boxes ≤ k → k ≡ n → front_from k ≡ record { count = n; refusal = 0 }
  unfolding Front-of
  from_end {k} {n} h e =
      let count : k + 0 ≡ n = omega (arith, e) in
      rw (drop_of_length-le boxes {i = k} h) (ap (λ (c : ℕ). record { count = c; refusal = 0 }) count)

-- ---- the boxes in front
module _ (front : Front) (boxes : List (List Float)) where
  pub front-boxes : front.count ≤ length boxes → front.count ≤ place_count → Front-boxes front boxes ≡ take front.count boxes
  unfolding Front-boxes
  front-boxes h l = rw (le-ltb (length boxes) front.count h, le-ltb place_count front.count l)

  pub none_lent : length boxes < front.count → Front-boxes front boxes ≡ []
  unfolding Front-boxes
  none_lent h = rw (lt-ltb (length boxes) front.count h)

  pub none-placed : front.count ≤ length boxes → place_count < front.count → Front-boxes front boxes ≡ []
  unfolding Front-boxes
  none-placed h l = rw (le-ltb (length boxes) front.count h, lt-ltb place_count front.count l)

-- ---- a front that is answered anew
module _ (front : Front) (answers : List BoundsAnswer) where
  pub after-accepted : (Front-of answers).count ≡ length answers → Front-after front answers ≡ front
  unfolding Front-after
  after-accepted e = rw (eq-eqb (Front-of answers).count (length answers) e)

  pub after-refused : (Front-of answers).count < length answers → Front-after front answers ≡ Front-of answers
  unfolding Front-after
  after-refused h = rw (ne_eqb (Front-of answers).count (length answers) (λ e. absurd (omega (arith, h, e))))
