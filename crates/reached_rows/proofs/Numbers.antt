-- The number of a list of rows, test by test: `count-first`, `cover-next`, `rows_last`. Rows that are not refused are at most 256, `accepted-few`; the number
-- is 0, 6, 7 or 14, `rows-number`. What the loop over the rows has judged: `number-here`, `number-next`, `number-end`.
use Prim.Native.Nat.{ℕ, suc, ◌+◌, ◌≤◌, ◌<◌}
use mathlib.Core.Logic.{inl, inr}
use mathlib.Core.Path.{◌≡◌, refl, sym, ap, ◌∙◌}
use mathlib.Core.Bool.{Bool, true, false, ◌||◌, cond}
use mathlib.Core.List.{List, [], ◌∷◌, map}
use native.Mathlib.Omega.{arith}
use borrow.Author.Tests.{eqb-false, ltb-false, ne_eqb}
use lib.Dec.{eqb, ltb}
use lib.ListN.{length, get_or, drop, drop_of_length-le}
use lib.Seq.{drop-cons}
use lib.Ieee.{Float}
use Rattle.bounds3.specs.declared.Bounds3f.{Bounds3f}
use Rattle.bounds3.specs.List.{Bounds3f-of_list}
use Rattle.bounds_query.specs.transform.Answer.{OneOf}
use Rattle.window_pairs.specs.refusal_below.First.{first_refusal}
use Rattle.bounds_query.specs.Query.{Bounds3f-refusal}
use Rattle.bounds_query.proofs.Numbers.{box-keeps}
use Rattle.window_pairs.proofs.bounds_answers.UnionAll.{each_of}
use Rattle.window_pairs.specs.motion_chain.Chain.{first_number, stage}
use Rattle.window_pairs.proofs.motion_chain.Built.{first-none, first-only, number-keeps, stage-keeps}
use Rattle.reached_rows.specs.Rows.{max_rows, rows_refusal}

-- ---- the tests in order
abbrev pub is_bad_count : ℕ → Bool
is_bad_count n = eqb n 0 || ltb max_rows n

module _ (cover : Bounds3f) (rows : List Bounds3f) where
  pub count-first : is_bad_count (length rows) ≡ true → rows_refusal cover rows ≡ 14
  unfolding rows_refusal first_number
  count-first e = rw e

  pub cover-next : is_bad_count (length rows) ≡ false → (Bounds3f-refusal cover ≡ 0 → ⊥) → rows_refusal cover rows ≡ Bounds3f-refusal cover
  unfolding rows_refusal first_number
  cover-next e h = rw (e, ne_eqb (Bounds3f-refusal cover) 0 h)

  pub rows_last : is_bad_count (length rows) ≡ false → Bounds3f-refusal cover ≡ 0 → rows_refusal cover rows ≡ stage Bounds3f-refusal rows
  unfolding rows_refusal first_number
  rows_last e z = rw (e, z) (first-only (stage Bounds3f-refusal rows))

  pub accepted-few : rows_refusal cover rows ≡ 0 → length rows ≤ max_rows
  unfolding rows_refusal
  accepted-few e =
      let n = length rows in
      go (eqb n 0) (ltb max_rows n) (ltb-false max_rows n) (first-none (cond (is_bad_count n) 14 0) _ e).0
    where
      go : (s t : Bool) → (t ≡ false → length rows ≤ max_rows) → ◌≡◌ {A = ℕ} (cond (s || t) 14 0) 0 → length rows ≤ max_rows
      go true t f z = absurd (eqb-false 14 0 refl z)
      go false true f z = absurd (eqb-false 14 0 refl z)
      go false false f z = f refl

-- ---- the numbers
abbrev Number : ℕ → Type 0
Number n = OneOf n (0 ∷ 6 ∷ 7 ∷ 14 ∷ [])

count-number : (t : Bool) → Number (cond t 14 0)
count-number true = inr (inr (inr (inl refl)))
count-number false = inl refl

box-number : (b : Bounds3f) → Number (Bounds3f-refusal b)
box-number b = box-keeps Number b (inl refl) (inr (inl refl)) (inr (inr (inl refl)))

stage-number : (rows : List Bounds3f) → Number (stage Bounds3f-refusal rows)
stage-number rows = stage-keeps Number (inl refl) Bounds3f-refusal rows (each_of box-number rows)

pub rows-number : (cover : Bounds3f) (rows : List Bounds3f) → OneOf (rows_refusal cover rows) (0 ∷ 6 ∷ 7 ∷ 14 ∷ [])
unfolding rows_refusal
rows-number cover rows = number-keeps Number (inl refl) _ (count-number (is_bad_count (length rows)), (box-number cover, (stage-number rows, tt)))

-- ---- the loop over the rows
module _ (rows : List (List Float)) where
  -- The number of the rows from place i on.
  abbrev pub number_from : ℕ → ℕ
  number_from i = stage Bounds3f-refusal (map Bounds3f-of_list (drop i rows))

  number_step : (i : ℕ) → i < length rows → number_from i ≡ first_refusal (Bounds3f-refusal (Bounds3f-of_list (get_or rows i []))) (number_from (suc i))
  unfolding first_number
  number_step i h = ap (λ (l : List (List Float)). stage Bounds3f-refusal (map Bounds3f-of_list l)) (drop-cons rows i [] h)

  pub number-here : (i : ℕ) {n : ℕ} → i < length rows → n ≡ Bounds3f-refusal (Bounds3f-of_list (get_or rows i [])) → (n ≡ 0 → ⊥) → number_from i ≡ n
  number-here i {n} h e z = number_step i h ∙ rw (← e, ne_eqb n 0 z)

  pub number-next : (i : ℕ) → i < length rows → Bounds3f-refusal (Bounds3f-of_list (get_or rows i [])) ≡ 0 → number_from (i + 1) ≡ number_from i
  number-next i h e =
      let s : i + 1 ≡ suc i = omega arith in
      ap number_from s ∙ sym (number_step i h ∙ rw e)

  pub number-end : (i : ℕ) → length rows ≤ i → number_from i ≡ 0
  unfolding first_number
  number-end i h = ap (λ (l : List (List Float)). stage Bounds3f-refusal (map Bounds3f-of_list l)) (drop_of_length-le rows h)
