-- The promises of a day: `day-keeps`, over `before-state`. Each boom has started by the sum of all run lengths (`all-started`), in the tick that is
-- given (`begun`).
use Prim.Native.Nat.{ℕ, zero, suc, ◌+◌, ◌-◌, ◌≤◌, ◌<◌}
use mathlib.Core.Path.{◌≡◌, refl, sym, ap, subst, ◌∙◌}
use mathlib.Core.Bool.{Bool, true, false}
use mathlib.Core.Logic.{◌⊎◌, inl, inr}
use mathlib.Core.List.{List, map}
use native.Mathlib.Omega.{arith}
use lib.ListN.{length, get_or, get_or-map}
use Rattle.run_schedule.specs.Day.{Boom, Run, waiting, started, Run-start, boom_at, taken_below, before, all_ticks, start_ticks}
use Rattle.run_schedule.specs.Theorem.{start_at, DayKeeps}
use Rattle.run_schedule.proofs.Places.{sum-part, sum-others}
use Rattle.run_schedule.proofs.Tick.{run_at, started-not-waiting, run-cases, Ticked, tick-ticked, before-size}
use Rattle.run_schedule.proofs.State.{Run-left, ticks_at, State, before-state, first-waits}

module _ (booms : List Boom) where
  -- A boom that has started waited before its starting tick, and was started in it.
  pub record Begun (i s : ℕ) : Type 0 where
    pub waited : run_at (before booms s) i ≡ waiting
    pub starts : run_at (before booms (suc s)) i ≡ started s

  pub begun : (t i s : ℕ) → run_at (before booms t) i ≡ started s → Begun i s
  begun zero i s e = absurd (started-not-waiting s (sym e ∙ first-waits booms i))
  begun (suc t) i s e = go (begun t i s) ((tick t).new-run i s e)
    where
      tick : (u : ℕ) → Ticked booms u (before booms u) (before booms (suc u))
      tick u = unfold before in tick-ticked booms u (length booms) (before booms u) (omega arith) (before-size booms u)

      go : (run_at (before booms t) i ≡ started s → Begun i s)
          → (run_at (before booms t) i ≡ started s) ⊎ ((run_at (before booms t) i ≡ waiting) × (s ≡ t)) → Begun i s
      go earlier (inl old) = earlier old
      go earlier (inr (w, q)) =
          record { waited = ap (λ (u : ℕ). run_at (before booms u) i) q ∙ w; starts = ap (λ (u : ℕ). run_at (before booms (suc u)) i) q ∙ e }

  module _ (some-ticks : (i : ℕ) → i < length booms → 1 ≤ ticks_at booms i) where
    pub all-started : (i : ℕ) → i < length booms → (s : ℕ) × (run_at (before booms (all_ticks booms)) i ≡ started s)
    all-started i h = go (run-cases (run_at (before booms (all_ticks booms)) i))
      where
        go : (run_at (before booms (all_ticks booms)) i ≡ waiting) ⊎ ((s : ℕ) × (run_at (before booms (all_ticks booms)) i ≡ started s))
            → (s : ℕ) × (run_at (before booms (all_ticks booms)) i ≡ started s)
        go (inl w) =
            let end = all_ticks booms in
            let part = sum-part (length booms) (λ j. Run-left (run_at (before booms end) j) (ticks_at booms j) end) i h in
            let mine : Run-left (run_at (before booms end) i) (ticks_at booms i) end ≡ ticks_at booms i = ap (λ (r : Run). Run-left r (ticks_at booms i) end) w in
            absurd (omega (arith, (before-state booms end).waits i h w, part, mine, some-ticks i h))
        go (inr s) = s

    start-at : (i s : ℕ) → run_at (before booms (all_ticks booms)) i ≡ started s → start_at booms (start_ticks booms) i ≡ s
    unfolding start_ticks
    start-at i s e = get_or-map Run-start (before booms (all_ticks booms)) i waiting ∙ ap Run-start e

    -- The tick that is given is that of the day's end.
    started-at : (i : ℕ) → i < length booms → run_at (before booms (all_ticks booms)) i ≡ started (start_at booms (start_ticks booms) i)
    started-at i h = let (s, e) = all-started i h in e ∙ ap started (sym (start-at i s e))

    pub day-keeps : DayKeeps booms (start_ticks booms)
    day-keeps =
        let end = all_ticks booms in
        let s : ℕ → ℕ = start_at booms (start_ticks booms) in
        record {
          never-meet = λ t i j hi hj d a b.
              (before-state booms end).apart i j (s i) (s j) t hi hj d (started-at i hi) (started-at j hj) a b;
          each-starts = λ i h. let b = begun end i (s i) (started-at i h) in (b.waited, b.starts);
          in-time = λ i h.
              omega (arith, (before-state booms end).within i (s i) h (started-at i h), sum-others (length booms) (ticks_at booms) i h);
        }

-- Nothing is promised of places behind the list.
pub keeps_same : (booms : List Boom) (starts other : List ℕ) → ((i : ℕ) → i < length booms → get_or starts i 0 ≡ get_or other i 0)
    → DayKeeps booms starts → DayKeeps booms other
keeps_same booms starts other same k =
    record {
      never-meet = λ t i j hi hj d a b.
          k.never-meet t i j hi hj d (omega (arith, a.0, same i hi), omega (arith, a.1, same i hi))
          (omega (arith, b.0, same j hj), omega (arith, b.1, same j hj));
      each-starts = λ i h.
          subst (λ (s : ℕ). (get_or (before booms s) i waiting ≡ waiting) × (get_or (before booms (suc s)) i waiting ≡ started s)) (same i h) (k.each-starts i h);
      in-time = λ i h. omega (arith, k.in-time i h, same i h);
    }
