-- The booms in lent arrays: how many, `booms-length`, and each of them, `box-at`, `ticks-at`; what is refused, as loops judge it.
use Prim.Native.Nat.{ℕ, zero, suc, ◌+◌, ◌-◌, ◌≤◌, ◌<◌}
use mathlib.Core.Path.{◌≡◌, refl, sym, ap, ◌∙◌}
use mathlib.Core.Bool.{Bool, true, false, ◌||◌, cond}
use mathlib.Core.List.{List, [], ◌∷◌}
use native.Mathlib.Omega.{arith}
use borrow.Author.Tests.{ne_eqb, ltb-false}
use lib.Dec.{eqb, ltb}
use lib.ListN.{length, get_or, drop}
use lib.Seq.{get_or-drop, drop-drop}
use lib.Ieee.{Float}
use Rattle.bounds_overlap.specs.bounds3.declared.Bounds3f.{Bounds3f}
use Rattle.bounds_overlap.specs.bounds3.List.{Bounds3f-of_list}
use Rattle.bounds_query.specs.Query.{Bounds3f-refusal}
use Rattle.run_schedule.specs.Day.{Boom, some_below, boom_at, Boom-bad_length, some_bad_length, max_booms, first_box_refusal, day_refusal}
use Rattle.run_schedule.proofs.Places.{both_false, some_same}
use Rattle.run_schedule.proofs.Accepted.{Accepted, day-accepted}
use Rattle.run_starts.specs.Booms.{Booms-of_lists}
use Rattle.run_starts.specs.means.Ends.{box_at, bad_length_at, GoodLengths}

abbrev boom_of : List (List Float) → List ℕ → ℕ → Boom
boom_of boxes lengths i = record { box = box_at boxes i; ticks = get_or lengths i 0 }

pub booms-length : (count : ℕ) (boxes : List (List Float)) (lengths : List ℕ) → length (Booms-of_lists count boxes lengths) ≡ count
unfolding Booms-of_lists
booms-length zero boxes lengths = refl
booms-length (suc count) boxes lengths = ap suc (booms-length count (drop 1 boxes) (drop 1 lengths))

boom-at : (count : ℕ) (boxes : List (List Float)) (lengths : List ℕ) (i : ℕ) → i < count
    → boom_at (Booms-of_lists count boxes lengths) i ≡ boom_of boxes lengths i
unfolding Booms-of_lists
boom-at zero boxes lengths i h = absurd (omega (arith, h))
boom-at (suc count) boxes lengths zero h = refl
boom-at (suc count) boxes lengths (suc i) h =
    let n : 1 + i ≡ suc i = omega arith in
    boom-at count (drop 1 boxes) (drop 1 lengths) i (omega (arith, h)) ∙ same (get_or-drop 1 boxes i [] ∙ ap (λ (k : ℕ). get_or boxes k []) n)
    (get_or-drop 1 lengths i 0 ∙ ap (λ (k : ℕ). get_or lengths k 0) n)
  where
    same : get_or (drop 1 boxes) i [] ≡ get_or boxes (suc i) [] → get_or (drop 1 lengths) i 0 ≡ get_or lengths (suc i) 0
        → boom_of (drop 1 boxes) (drop 1 lengths) i ≡ boom_of boxes lengths (suc i)
    same e f = rw (e, f)

pub few-count : (count : ℕ) → (eqb count 0 || ltb max_booms count) ≡ false → count ≤ 8
few-count count e = ltb-false max_booms count (both_false (eqb count 0) (ltb max_booms count) e).1

module _ (count : ℕ) (boxes : List (List Float)) (lengths : List ℕ) where
  pub box-at : (i : ℕ) → i < count → (boom_at (Booms-of_lists count boxes lengths) i).box ≡ box_at boxes i
  box-at i h = ap (λ (b : Boom). b.box) (boom-at count boxes lengths i h)

  pub ticks-at : (i : ℕ) → i < count → (boom_at (Booms-of_lists count boxes lengths) i).ticks ≡ get_or lengths i 0
  ticks-at i h = ap (λ (b : Boom). b.ticks) (boom-at count boxes lengths i h)

  pub bad-same : some_bad_length (Booms-of_lists count boxes lengths) ≡ some_below count (bad_length_at lengths)
  bad-same =
      let booms = Booms-of_lists count boxes lengths in
      ap (λ (n : ℕ). some_below n (λ i. Boom-bad_length (boom_at booms i))) (booms-length count boxes lengths)
      ∙ some_same count (λ i. Boom-bad_length (boom_at booms i)) (bad_length_at lengths)
      (λ i h. ap Boom-bad_length (boom-at count boxes lengths i h))

  -- ---- the number, as the code judges it: how many booms, then run lengths, then boxes
  day-number-is : (x y : Bool) → (eqb count 0 || ltb max_booms count) ≡ x → some_below count (bad_length_at lengths) ≡ y
      → day_refusal (Booms-of_lists count boxes lengths) ≡ cond (x || y) 22 (first_box_refusal (Booms-of_lists count boxes lengths))
  unfolding day_refusal
  day-number-is x y e f =
      let n : (eqb (length (Booms-of_lists count boxes lengths)) 0 || ltb max_booms (length (Booms-of_lists count boxes lengths))) ≡ x =
      ap (λ (k : ℕ). eqb k 0 || ltb max_booms k) (booms-length count boxes lengths) ∙ e in
      let bad : some_bad_length (Booms-of_lists count boxes lengths) ≡ y = bad-same ∙ f in
      rw (n, bad)

  pub refused-count : (eqb count 0 || ltb max_booms count) ≡ true → day_refusal (Booms-of_lists count boxes lengths) ≡ 22
  refused-count e = day-number-is true (some_below count (bad_length_at lengths)) e refl

  pub refused-length : (eqb count 0 || ltb max_booms count) ≡ false → some_below count (bad_length_at lengths) ≡ true
      → day_refusal (Booms-of_lists count boxes lengths) ≡ 22
  refused-length e f = day-number-is false true e f

  pub refused-boxes : (eqb count 0 || ltb max_booms count) ≡ false → some_below count (bad_length_at lengths) ≡ false
      → day_refusal (Booms-of_lists count boxes lengths) ≡ first_box_refusal (Booms-of_lists count boxes lengths)
  refused-boxes e f = day-number-is false false e f

  -- A list that is not refused has 1 to 8 booms and good run lengths.
  pub accepted-few : day_refusal (Booms-of_lists count boxes lengths) ≡ 0 → count ≤ 8
  accepted-few e = omega (arith, (day-accepted (Booms-of_lists count boxes lengths) e).few, booms-length count boxes lengths)

  pub accepted-lengths : day_refusal (Booms-of_lists count boxes lengths) ≡ 0 → GoodLengths count lengths
  accepted-lengths e i h =
      let t = (day-accepted (Booms-of_lists count boxes lengths) e).ticks i (omega (arith, h, booms-length count boxes lengths)) in
      let q = ticks-at i h in
      (omega (arith, t.0, q), omega (arith, t.1, q))

  -- ---- the first box that is refused: the booms from i on
  abbrev pub booms_from : ℕ → List Boom
  booms_from i = Booms-of_lists (count - i) (drop i boxes) (drop i lengths)

  from_step : (i : ℕ) → i < count → booms_from i ≡ boom_of boxes lengths i ∷ booms_from (i + 1)
  from_step i h = go (count - i) (count - (i + 1)) (omega (arith, h)) (drop i boxes) (drop i lengths) (drop-drop 1 i boxes) (drop-drop 1 i lengths) first ticks
    where
      z : i + 0 ≡ i
      z = omega arith

      first : get_or (drop i boxes) 0 [] ≡ get_or boxes i []
      first = get_or-drop i boxes 0 [] ∙ ap (λ (k : ℕ). get_or boxes k []) z

      ticks : get_or (drop i lengths) 0 0 ≡ get_or lengths i 0
      ticks = get_or-drop i lengths 0 0 ∙ ap (λ (k : ℕ). get_or lengths k 0) z

      go : (m n : ℕ) → m ≡ suc n → (bs : List (List Float)) (ls : List ℕ) → drop 1 bs ≡ drop (i + 1) boxes → drop 1 ls ≡ drop (i + 1) lengths
          → get_or bs 0 [] ≡ get_or boxes i [] → get_or ls 0 0 ≡ get_or lengths i 0
          → Booms-of_lists m bs ls ≡ boom_of boxes lengths i ∷ Booms-of_lists n (drop (i + 1) boxes) (drop (i + 1) lengths)
      go m n e bs ls p q f g = unfold Booms-of_lists in rw (e, p, q, f, g)

  pub refusal-here : (i n : ℕ) → i < count → n ≡ Bounds3f-refusal (box_at boxes i) → (n ≡ 0 → ⊥)
      → first_box_refusal (booms_from i) ≡ n
  refusal-here i n h e z = ap first_box_refusal (from_step i h) ∙ here
    where
      here : first_box_refusal (boom_of boxes lengths i ∷ booms_from (i + 1)) ≡ n
      here = unfold first_box_refusal in rw (← e, ne_eqb n 0 z)

  pub refusal-next : (i : ℕ) → i < count → Bounds3f-refusal (box_at boxes i) ≡ 0
      → first_box_refusal (booms_from (i + 1)) ≡ first_box_refusal (booms_from i)
  refusal-next i h e = sym (ap first_box_refusal (from_step i h) ∙ next)
    where
      next : first_box_refusal (boom_of boxes lengths i ∷ booms_from (i + 1)) ≡ first_box_refusal (booms_from (i + 1))
      next = unfold first_box_refusal in rw e

  pub refusal-none : (i : ℕ) → count ≤ i → first_box_refusal (booms_from i) ≡ 0
  refusal-none i h = ap (λ (n : ℕ). first_box_refusal (Booms-of_lists n (drop i boxes) (drop i lengths))) (omega (arith, h)) ∙ none
    where
      none : first_box_refusal (Booms-of_lists 0 (drop i boxes) (drop i lengths)) ≡ 0
      none = unfold first_box_refusal Booms-of_lists in refl
