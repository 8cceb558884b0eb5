-- What it says of a list of booms that it is not refused, `day-accepted`, and which numbers it can give, `day-number`.
use Prim.Native.Nat.{ℕ, ◌≤◌, ◌<◌}
use mathlib.Core.Path.{◌≡◌, refl, subst}
use mathlib.Core.Bool.{Bool, true, false, ◌||◌, cond}
use mathlib.Core.Logic.{inl, inr}
use mathlib.Core.List.{List, [], ◌∷◌}
use native.Mathlib.Omega.{arith}
use borrow.Author.Tests.{eqb-false, ltb-false}
use lib.Dec.{eqb, ltb}
use lib.ListN.{length}
use Rattle.bounds_query.proofs.control_flow.Choice.{cond-keeps}
use Rattle.bounds_overlap.specs.bounds3.declared.Bounds3f.{Bounds3f}
use Rattle.bounds_query.specs.Query.{Bounds3f-refusal}
use Rattle.bounds_query.proofs.Numbers.{box-keeps}
use Rattle.bounds_query.specs.transform.Answer.{OneOf}
use Rattle.run_schedule.specs.Day.{Boom, boom_at, Boom-bad_length, some_bad_length, max_booms, max_ticks, first_box_refusal, day_refusal}
use Rattle.run_schedule.proofs.Places.{both_false, some-false}

pub record Accepted (booms : List Boom) : Type 0 where
  pub some : 1 ≤ length booms
  pub few : length booms ≤ max_booms
  pub ticks : (i : ℕ) → i < length booms → (1 ≤ (boom_at booms i).ticks) × ((boom_at booms i).ticks ≤ max_ticks)

none-of-three : (a b c : Bool) (n : ℕ) → cond (a || b || c) 22 n ≡ 0 → (a ≡ false) × (b ≡ false) × (c ≡ false)
none-of-three false false false n e = (refl, refl, refl)
none-of-three false false true n e = absurd (omega (arith, e))
none-of-three false true c n e = absurd (omega (arith, e))
none-of-three true b c n e = absurd (omega (arith, e))

good_length : (b : Boom) → Boom-bad_length b ≡ false → (1 ≤ b.ticks) × (b.ticks ≤ max_ticks)
good_length b e =
    let (z, l) = both_false (eqb b.ticks 0) (ltb max_ticks b.ticks) e in
    (omega (arith, eqb-false b.ticks 0 z), ltb-false max_ticks b.ticks l)

pub day-accepted : (booms : List Boom) → day_refusal booms ≡ 0 → Accepted booms
unfolding day_refusal
day-accepted booms e =
    let (z, m, l) = none-of-three (eqb (length booms) 0) (ltb max_booms (length booms)) (some_bad_length booms) (first_box_refusal booms) e in
    record {
      some = omega (arith, eqb-false (length booms) 0 z);
      few = ltb-false max_booms (length booms) m;
      ticks = λ i h. good_length (boom_at booms i) (some-false (length booms) (λ j. Boom-bad_length (boom_at booms j)) l i h);
    }

box-number : (b : Bounds3f) → OneOf (Bounds3f-refusal b) (0 ∷ 6 ∷ 7 ∷ 22 ∷ [])
box-number b = box-keeps (λ (n : ℕ). OneOf n (0 ∷ 6 ∷ 7 ∷ 22 ∷ [])) b (inl refl) (inr (inl refl)) (inr (inr (inl refl)))

boxes-number : (booms : List Boom) → OneOf (first_box_refusal booms) (0 ∷ 6 ∷ 7 ∷ 22 ∷ [])
unfolding first_box_refusal
boxes-number [] = inl refl
boxes-number (b ∷ booms) =
    cond-keeps (λ (n : ℕ). OneOf n (0 ∷ 6 ∷ 7 ∷ 22 ∷ [])) (eqb (Bounds3f-refusal b.box) 0) _ _ (boxes-number booms) (box-number b.box)

pub day-number : (booms : List Boom) → OneOf (day_refusal booms) (0 ∷ 6 ∷ 7 ∷ 22 ∷ [])
unfolding day_refusal
day-number booms =
    cond-keeps (λ (n : ℕ). OneOf n (0 ∷ 6 ∷ 7 ∷ 22 ∷ [])) (eqb (length booms) 0 || ltb max_booms (length booms) || some_bad_length booms) _ _
    (inr (inr (inr (inl refl)))) (boxes-number booms)
