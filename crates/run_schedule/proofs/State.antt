-- What holds of the runs in every tick, `State`: no two that go on together have meeting boxes, and while a boom waits, the ticks that have passed and those
-- that are left of all runs are no more than all run lengths together. It is kept by a start, by the end of a tick, and so by every tick, `before-state`.
use Prim.Native.Nat.{ℕ, zero, suc, ◌+◌, ◌-◌, ◌≤◌, ◌<◌}
use mathlib.Core.Path.{◌≡◌, refl, sym, ap, subst, ◌∙◌}
use mathlib.Core.Bool.{Bool, true, false, ◌&&◌}
use mathlib.Core.Logic.{◌⊎◌, inl, inr}
use mathlib.Core.List.{List, [], map}
use native.Mathlib.Omega.{arith}
use borrow.Author.Tests.{lt-ltb, ltb-true}
use lib.Dec.{T, ltb}
use lib.ListN.{length, get_or, set, length-set, get_or-map}
use Rattle.bounds_overlap.specs.bounds3.List.{Bounds3f-of_list}
use Rattle.bounds_overlap.specs.Meets.{Bounds3f-meets}
use Rattle.bounds_overlap.proofs.Overlap.{meets-comm}
use Rattle.run_schedule.specs.Day.{Boom, Run, waiting, started, Run-goes_on, sum_below, boom_at, runs_in, meets_running, taken_below, before, all_ticks}
use Rattle.run_schedule.proofs.Places.{Some, some-false, sum_same, sum_less, sum-part}
use Rattle.run_schedule.proofs.Tick.{run_at, started-not-waiting, started-same, SetAt, set_at, StartKeeps, tick-keeps}
use Rattle.run_schedule.proofs.Tick.{meets-runs, Blocked, tick-blocks, before-size}

-- The ticks that are left of a run in tick t, all of them where it has not begun.
abbrev pub Run-left : Run → ℕ → ℕ → ℕ
Run-left waiting ticks t = ticks
Run-left (started s) ticks t = s + ticks - t

left-mono : (r : Run) (n t : ℕ) → Run-left r n (suc t) ≤ Run-left r n t
left-mono waiting n t = omega arith
left-mono (started s) n t = omega arith

left_less : (r : Run) (n t : ℕ) → Run-goes_on r n t ≡ true → Run-left r n (suc t) < Run-left r n t
left_less waiting n t e = absurd (subst T (sym e) tt)
left_less (started s) n t e = omega (arith, ltb-true t (s + n) e)

module _ (booms : List Boom) where
  abbrev pub ticks_at : ℕ → ℕ
  ticks_at i = (boom_at booms i).ticks

  abbrev pub ticks_left : ℕ → List Run → ℕ
  ticks_left t runs = sum_below (length booms) (λ i. Run-left (run_at runs i) (ticks_at i) t)

  pub record State (t : ℕ) (runs : List Run) : Type 0 where
    pub past : (i s : ℕ) → run_at runs i ≡ started s → s ≤ t
    pub apart : (i j s u x : ℕ) → i < length booms → j < length booms → (i ≡ j → ⊥) → run_at runs i ≡ started s → run_at runs j ≡ started u
        → (s ≤ x) × (x < s + ticks_at i) → (u ≤ x) × (x < u + ticks_at j) → Bounds3f-meets (boom_at booms i).box (boom_at booms j).box ≡ false
    pub within : (i s : ℕ) → i < length booms → run_at runs i ≡ started s → s + ticks_at i ≤ all_ticks booms
    pub waits : (i : ℕ) → i < length booms → run_at runs i ≡ waiting → t + ticks_left t runs ≤ all_ticks booms

  -- ---- a start keeps it
  -- A boom that may start in tick t meets none that still runs then.
  free-apart : (t k j u : ℕ) (runs : List Run) → meets_running booms t runs k ≡ false → j < length booms → run_at runs j ≡ started u → t < u + ticks_at j
      → Bounds3f-meets (boom_at booms k).box (boom_at booms j).box ≡ false
  free-apart t k j u runs f h e l =
      let test : ℕ → Bool = λ i. runs_in booms t runs i && Bounds3f-meets (boom_at booms k).box (boom_at booms i).box in
      let runs_on : runs_in booms t runs j ≡ true = ap (λ (r : Run). Run-goes_on r (ticks_at j) t) e ∙ lt-ltb t (u + ticks_at j) l in
      sym (ap (λ (b : Bool). b && Bounds3f-meets (boom_at booms k).box (boom_at booms j).box) runs_on) ∙ some-false (length booms) test f j h

  module _ (t k : ℕ) (runs : List Run) (h : k < length booms) (l : k < length runs) (p : State t runs) (w : run_at runs k ≡ waiting)
      (f : meets_running booms t runs k ≡ false) where
    past-at : (i s : ℕ) → run_at (set runs k (started t)) i ≡ started s → SetAt runs k (started t) i → s ≤ t
    past-at i s e (inl (q, here)) = omega (arith, started-same s t (sym e ∙ here))
    past-at i s e (inr (q, other)) = p.past i s (sym other ∙ e)

    apart-at : (i j s u x : ℕ) → i < length booms → j < length booms → (i ≡ j → ⊥)
        → run_at (set runs k (started t)) i ≡ started s → run_at (set runs k (started t)) j ≡ started u
        → (s ≤ x) × (x < s + ticks_at i) → (u ≤ x) × (x < u + ticks_at j)
        → SetAt runs k (started t) i → SetAt runs k (started t) j → Bounds3f-meets (boom_at booms i).box (boom_at booms j).box ≡ false
    apart-at i j s u x hi hj d e g a b (inl (q, here)) (inl (r, there)) = absurd (d (q ∙ sym r))
    apart-at i j s u x hi hj d e g a b (inl (q, here)) (inr (r, other)) =
        let m = free-apart t k j u runs f hj (sym other ∙ g) (omega (arith, a.0, b.1, started-same s t (sym e ∙ here))) in
        ap (λ (n : ℕ). Bounds3f-meets (boom_at booms n).box (boom_at booms j).box) q ∙ m
    apart-at i j s u x hi hj d e g a b (inr (q, other)) (inl (r, there)) =
        let m = free-apart t k i s runs f hi (sym other ∙ e) (omega (arith, b.0, a.1, started-same u t (sym g ∙ there))) in
        meets-comm (boom_at booms i).box (boom_at booms j).box ∙ ap (λ (n : ℕ). Bounds3f-meets (boom_at booms n).box (boom_at booms i).box) r ∙ m
    apart-at i j s u x hi hj d e g a b (inr (q, other)) (inr (r, another)) = p.apart i j s u x hi hj d (sym other ∙ e) (sym another ∙ g) a b

    left-same : ticks_left t (set runs k (started t)) ≡ ticks_left t runs
    left-same =
        sum_same (length booms) (λ i. Run-left (run_at (set runs k (started t)) i) (ticks_at i) t) (λ i. Run-left (run_at runs i) (ticks_at i) t)
        (λ i _. at i (set_at runs k (started t) i l))
      where
        at : (i : ℕ) → SetAt runs k (started t) i → Run-left (run_at (set runs k (started t)) i) (ticks_at i) t ≡ Run-left (run_at runs i) (ticks_at i) t
        at i (inl (q, here)) =
            let now : Run-left (run_at (set runs k (started t)) i) (ticks_at i) t ≡ t + ticks_at i - t = ap (λ (r : Run). Run-left r (ticks_at i) t) here in
            let was : Run-left (run_at runs i) (ticks_at i) t ≡ ticks_at i = ap (λ (r : Run). Run-left r (ticks_at i) t) (ap (run_at runs) q ∙ w) in
            omega (arith, now, was)
        at i (inr (q, other)) = ap (λ (r : Run). Run-left r (ticks_at i) t) other

    -- A boom that waits has all its ticks left.
    start-within : t + ticks_at k ≤ all_ticks booms
    start-within =
        let part = sum-part (length booms) (λ i. Run-left (run_at runs i) (ticks_at i) t) k h in
        let mine : Run-left (run_at runs k) (ticks_at k) t ≡ ticks_at k = ap (λ (r : Run). Run-left r (ticks_at k) t) w in
        omega (arith, p.waits k h w, part, mine)

    within-at : (i s : ℕ) → i < length booms → run_at (set runs k (started t)) i ≡ started s → SetAt runs k (started t) i → s + ticks_at i ≤ all_ticks booms
    within-at i s hi e (inl (q, here)) = omega (arith, start-within, started-same s t (sym e ∙ here), ap ticks_at q)
    within-at i s hi e (inr (q, other)) = p.within i s hi (sym other ∙ e)

    waits-at : (i : ℕ) → i < length booms → run_at (set runs k (started t)) i ≡ waiting → SetAt runs k (started t) i
        → t + ticks_left t (set runs k (started t)) ≤ all_ticks booms
    waits-at i hi e (inl (q, here)) = absurd (started-not-waiting t (sym here ∙ e))
    waits-at i hi e (inr (q, other)) = omega (arith, p.waits i hi (sym other ∙ e), left-same)

    state-started : State t (set runs k (started t))
    state-started =
        let at : (i : ℕ) → SetAt runs k (started t) i = λ i. set_at runs k (started t) i l in
        record {
          past = λ i s e. past-at i s e (at i);
          apart = λ i j s u x hi hj d e g a b. apart-at i j s u x hi hj d e g a b (at i) (at j);
          within = λ i s hi e. within-at i s hi e (at i);
          waits = λ i hi e. waits-at i hi e (at i);
        }

  start-keeps-state : (t : ℕ) → StartKeeps booms t (State t)
  start-keeps-state t = record { kept = λ k runs h l p w f. state-started t k runs h (omega (arith, h, l)) p w f }

  pub tick-state : (t k : ℕ) (runs : List Run) → k ≤ length booms → length runs ≡ length booms → State t runs → State t (taken_below booms t k runs)
  tick-state t k runs h l p = tick-keeps booms (start-keeps-state t) k runs h l p

  -- ---- the end of a tick keeps it: some boom runs while another waits
  next-state : (t : ℕ) (runs : List Run) → Blocked booms t runs → State t runs → State (suc t) runs
  next-state t runs b p =
      record {
        past = λ i s e. omega (arith, p.past i s e);
        apart = p.apart;
        within = p.within;
        waits = λ i h w. less (p.waits i h w) (meets-runs booms t i runs (b.each i h w));
      }
    where
      less : t + ticks_left t runs ≤ all_ticks booms → Some (length booms) (runs_in booms t runs) → suc t + ticks_left (suc t) runs ≤ all_ticks booms
      less budget s =
          let fewer =
          sum_less (length booms) (λ n. Run-left (run_at runs n) (ticks_at n) (suc t)) (λ n. Run-left (run_at runs n) (ticks_at n) t)
          (λ n _. left-mono (run_at runs n) (ticks_at n) t) s.place s.below (left_less (run_at runs s.place) (ticks_at s.place) t s.holds) in
          omega (arith, budget, fewer)

  -- ---- all wait from tick 0
  pub first-waits : (i : ℕ) → run_at (before booms 0) i ≡ waiting
  unfolding before
  first-waits i = get_or-map (λ b. waiting) booms i (record { box = Bounds3f-of_list []; ticks = 0 })

  first-state : State 0 (before booms 0)
  first-state =
      record {
        past = λ i s e. absurd (started-not-waiting s (sym e ∙ first-waits i));
        apart = λ i j s u x hi hj d e g a b. absurd (started-not-waiting s (sym e ∙ first-waits i));
        within = λ i s h e. absurd (started-not-waiting s (sym e ∙ first-waits i));
        waits = λ i h e. omega (arith, all_left);
      }
    where
      all_left : ticks_left 0 (before booms 0) ≡ all_ticks booms
      all_left =
          sum_same (length booms) (λ i. Run-left (run_at (before booms 0) i) (ticks_at i) 0) ticks_at
          (λ i _. ap (λ (r : Run). Run-left r (ticks_at i) 0) (first-waits i))

  pub before-state : (t : ℕ) → State t (before booms t)
  unfolding before
  before-state zero = first-state
  before-state (suc t) =
      next-state t (before booms (suc t)) (tick-blocks booms t (before booms t) (before-size booms t))
      (tick-state t (length booms) (before booms t) (omega arith) (before-size booms t) (before-state t))
