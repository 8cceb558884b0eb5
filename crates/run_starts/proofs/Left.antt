-- What is left in the lent starting ticks: the definition's, `starts-left`, of which the promises hold, `left-keeps`.
use Prim.Native.Nat.{ℕ, zero, suc, ◌+◌, ◌-◌, ◌≤◌, ◌<◌}
use mathlib.Core.Path.{◌≡◌, refl, sym, ap, subst, ◌∙◌}
use mathlib.Core.Bool.{Bool, true, false}
use mathlib.Core.List.{List, ◌++◌}
use native.Mathlib.Omega.{arith}
use borrow.Author.Tests.{ltb-true, ltb-false, ne_eqb}
use lib.Dec.{ltb}
use lib.ListN.{length, get_or, replicate, length-append, length-map, length-replicate, get_or-append, get_or-map}
use lib.Seq.{ext_get_or, get_or-append-add}
use lib.Ieee.{Float}
use Rattle.run_schedule.specs.Day.{Boom, Run, waiting, Run-start, boom_at, before, all_ticks, start_ticks, max_booms, day_refusal}
use Rattle.run_schedule.specs.Theorem.{DayKeeps}
use Rattle.run_schedule.proofs.Tick.{run_at, before-size}
use Rattle.run_schedule.proofs.State.{ticks_at}
use Rattle.run_schedule.proofs.Keeps.{all-started, day-keeps, keeps_same}
use Rattle.run_starts.specs.Booms.{starts_places, starts_left}
use Rattle.run_starts.specs.means.Ends.{GoodLengths, Run-end, EndsOf, StartsOf}
use Rattle.run_starts.proofs.Booms.{booms-length, ticks-at}
use Rattle.run_starts.proofs.Taken.{day_booms}

zero-places : (m k : ℕ) → ◌≡◌ {A = ℕ} (get_or (replicate m 0) k 0) 0
zero-places zero k = refl
zero-places (suc m) zero = refl
zero-places (suc m) (suc k) = zero-places m k

left-accepted : (booms : List Boom) (old : List ℕ) → day_refusal booms ≡ 0 → starts_places booms ≡ starts_left booms old
left-accepted booms old z = unfold starts_left in rw z

left-refused : (booms : List Boom) (old : List ℕ) → (day_refusal booms ≡ 0 → ⊥) → old ≡ starts_left booms old
left-refused booms old d = unfold starts_left in rw (ne_eqb (day_refusal booms) 0 d)

pub day-refused : (booms : List Boom) (old : List ℕ) (n : ℕ) → n ≡ day_refusal booms → (n ≡ 0 → ⊥)
    → (n ≡ day_refusal booms) × ((old ≡ starts_left booms old) × (n ≡ 0 → DayKeeps booms old))
day-refused booms old n e d = (e, (left-refused booms old (λ z. d (e ∙ z)), λ z. absurd (d z)))

module _ (count : ℕ) (boxes : List (List Float)) (lengths : List ℕ) (few : count ≤ 8) (good : GoodLengths count lengths) where
  abbrev booms : List Boom
  booms = day_booms count boxes lengths

  size : length booms ≡ count
  size = booms-length count boxes lengths

  some-ticks : (i : ℕ) → i < length booms → 1 ≤ ticks_at booms i
  some-ticks i h = omega (arith, (good i (omega (arith, h, size))).0, ticks-at count boxes lengths i (omega (arith, h, size)))

  starts-size : length (start_ticks booms) ≡ count
  starts-size = unfold start_ticks in length-map (before booms (all_ticks booms)) Run-start ∙ before-size booms (all_ticks booms) ∙ size

  start_of : (i : ℕ) → get_or (start_ticks booms) i 0 ≡ Run-start (run_at (before booms (all_ticks booms)) i)
  start_of i = unfold start_ticks in get_or-map Run-start (before booms (all_ticks booms)) i waiting

  -- ---- the end of each run is its start and its length
  module _ (ends : List ℕ) (e : EndsOf booms (before booms (all_ticks booms)) ends) where
    end_of : (i : ℕ) → i < count → get_or ends i 0 ≡ get_or (start_ticks booms) i 0 + get_or lengths i 0
    end_of i h =
        let l : i < length booms = omega (arith, h, size) in
        let (s, q) = all-started booms some-ticks i l in
        let end : get_or ends i 0 ≡ s + (boom_at booms i).ticks = e.end i l ∙ ap (λ (r : Run). Run-end r (boom_at booms i).ticks) q in
        let start : get_or (start_ticks booms) i 0 ≡ s = start_of i ∙ ap Run-start q in
        omega (arith, end, start, ticks-at count boxes lengths i h)

    pub lengths-before-ends : (i : ℕ) → i < count → get_or lengths i 0 ≤ get_or ends i 0
    lengths-before-ends i h = omega (arith, end_of i h)

    pub starts-left : (starts : List ℕ) → StartsOf count lengths ends starts → starts ≡ starts_places booms
    starts-left starts o = ext_get_or 0 starts (starts_places booms) (o.size ∙ sym places) (λ i h. at i (ltb i count) (ltb-true i count) (ltb-false i count))
      where
        places : length (start_ticks booms ++ replicate (max_booms - length booms) 0) ≡ 8
        places =
            let a = length-append (start_ticks booms) (replicate (max_booms - length booms) 0) in
            let r = length-replicate {A = ℕ} (max_booms - length booms) 0 in
            omega (arith, a, r, starts-size, size, few)

        at : (i : ℕ) (b : Bool) → (b ≡ true → i < count) → (b ≡ false → count ≤ i)
            → get_or starts i 0 ≡ get_or (start_ticks booms ++ replicate (max_booms - length booms) 0) i 0
        at i true f g =
            let a = get_or-append (start_ticks booms) (replicate (max_booms - length booms) 0) 0 i (omega (arith, f refl, starts-size)) in
            omega (arith, a, o.start i (f refl), end_of i (f refl))
        at i false f g =
            let n : length (start_ticks booms) + (i - count) ≡ i = omega (arith, g refl, starts-size) in
            let a = get_or-append-add (start_ticks booms) (replicate (max_booms - length booms) 0) (i - count) 0 in
            o.unused i (g refl)
            ∙ sym (ap (λ (k : ℕ). get_or (start_ticks booms ++ replicate (max_booms - length booms) 0) k 0) (sym n) ∙ a
            ∙ zero-places (max_booms - length booms) (i - count))

  pub left-keeps : DayKeeps booms (starts_places booms)
  left-keeps =
      keeps_same booms (start_ticks booms) (starts_places booms)
      (λ i h. sym (get_or-append (start_ticks booms) (replicate (max_booms - length booms) 0) 0 i (omega (arith, h, size, starts-size))))
      (day-keeps booms some-ticks)

  -- ---- the clauses of the function that is asked
  pub day-given : (old starts ends : List ℕ) → day_refusal booms ≡ 0 → EndsOf booms (before booms (all_ticks booms)) ends → StartsOf count lengths ends starts
      → (◌≡◌ {A = ℕ} 0 (day_refusal booms)) × ((starts ≡ starts_left booms old) × (◌≡◌ {A = ℕ} 0 0 → DayKeeps booms starts))
  day-given old starts ends z e o =
      let same : starts ≡ starts_places booms = starts-left ends e starts o in
      (sym z, (same ∙ left-accepted booms old z, λ _. subst (DayKeeps booms) (sym same) left-keeps))
