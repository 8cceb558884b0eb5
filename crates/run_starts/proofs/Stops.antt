-- From one stop to the next nothing starts, so that the ticks between are passed over: `stop-next`. `stop-first`, `stop-last`: the day's begin and its end.
use Prim.Native.Nat.{ℕ, zero, suc, ◌+◌, ◌-◌, ◌*◌, ◌≤◌, ◌<◌}
use mathlib.Core.Path.{◌≡◌, refl, sym, ap, subst, ◌∙◌}
use mathlib.Core.Bool.{Bool, true, false}
use mathlib.Core.Logic.{◌⊎◌, inl, inr}
use mathlib.Core.List.{List}
use native.Mathlib.Omega.{arith}
use borrow.Author.Tests.{eqb-true, eqb-false, ltb-true, lt-ltb}
use lib.Dec.{T, eqb, ltb}
use lib.ListN.{length, get_or, replicate, get_or-replicate}
use lib.Ieee.{Float}
use Rattle.run_schedule.specs.Day.{Boom, Run, waiting, started, Run-goes_on, some_below, boom_at, runs_in, meets_running, taken_below, before, all_ticks, max_ticks}
use Rattle.run_schedule.proofs.Places.{Some, some-true, some-false, sum-at-most}
use Rattle.run_schedule.proofs.Tick.{run_at, started-not-waiting, run-cases, Ticked, tick-ticked, Blocked}
use Rattle.run_schedule.proofs.Tick.{tick-blocks, meets-more, meets-runs, before-idle, before-size}
use Rattle.run_schedule.proofs.State.{ticks_at, State, before-state, first-waits}
use Rattle.run_starts.specs.Booms.{Booms-of_lists}
use Rattle.run_starts.specs.means.Ends.{GoodLengths, Run-end, EndsOf, Ticks, last_tick, NextStop}
use Rattle.run_starts.proofs.Booms.{booms-length, ticks-at}
use Rattle.run_starts.proofs.Taken.{day_booms, end-running, end-waiting, waiting-end}

-- What is known before tick t.
pub record Stop (count : ℕ) (boxes : List (List Float)) (lengths : List ℕ) (t : ℕ) (ends : List ℕ) : Type 0 where
  pub runs : EndsOf (day_booms count boxes lengths) (before (day_booms count boxes lengths) t) ends
  pub early : t ≤ all_ticks (day_booms count boxes lengths)

module _ (count : ℕ) (boxes : List (List Float)) (lengths : List ℕ) (few : count ≤ 8) (good : GoodLengths count lengths) where
  abbrev booms : List Boom
  booms = day_booms count boxes lengths

  size : length booms ≡ count
  size = booms-length count boxes lengths

  pub all-few : all_ticks booms ≤ last_tick
  all-few =
      let each : all_ticks booms ≤ length booms * max_ticks =
      sum-at-most (length booms) max_ticks (ticks_at booms)
      (λ i h. omega (arith, (good i (omega (arith, h, size))).1, ticks-at count boxes lengths i (omega (arith, h, size)))) in
      omega (arith, each, size, few)

  pub stop-first : Stop count boxes lengths 0 (replicate 8 0)
  stop-first =
      record {
        runs = record {
          size = before-size booms 0;
          end = λ i h.
              get_or-replicate 8 i 0 0 (omega (arith, h, size, few)) ∙ sym (ap (λ (r : Run). Run-end r (boom_at booms i).ticks) (first-waits booms i));
        };
        early = omega arith;
      }

  -- ---- some boom waits before tick t: after it some boom runs
  module _ (t : ℕ) (ends after : List ℕ) (next : ℕ) (stop : Stop count boxes lengths t ends)
      (ticks : Ticks booms t ends after) (n : NextStop count after t next) where
    after-runs : EndsOf booms (before booms (suc t)) after
    after-runs = unfold before in ticks (before booms t) stop.runs

    blocked : Blocked booms t (before booms (suc t))
    blocked = unfold before in tick-blocks booms t (before booms t) (before-size booms t)

    ticked : Ticked booms t (before booms t) (before booms (suc t))
    ticked = unfold before in tick-ticked booms t (length booms) (before booms t) (omega arith) (before-size booms t)

    -- A boom that waited runs now, or one that it meets does.
    some_runs : (i : ℕ) → i < count → run_at (before booms t) i ≡ waiting → Some (length booms) (runs_in booms t (before booms (suc t)))
    some_runs i h w = go (run-cases (run_at (before booms (suc t)) i))
      where
        begun : (s : ℕ) → run_at (before booms (suc t)) i ≡ started s
            → (run_at (before booms t) i ≡ started s) ⊎ ((run_at (before booms t) i ≡ waiting) × (s ≡ t)) → runs_in booms t (before booms (suc t)) i ≡ true
        begun s e (inl old) = absurd (started-not-waiting s (sym old ∙ w))
        begun s e (inr (v, q)) =
            ap (λ (r : Run). Run-goes_on r (boom_at booms i).ticks t) e
            ∙ lt-ltb t (s + (boom_at booms i).ticks) (omega (arith, q, (good i h).0, ticks-at count boxes lengths i h))

        go : (run_at (before booms (suc t)) i ≡ waiting) ⊎ ((s : ℕ) × (run_at (before booms (suc t)) i ≡ started s))
            → Some (length booms) (runs_in booms t (before booms (suc t)))
        go (inl v) = meets-runs booms t i (before booms (suc t)) (blocked.each i (omega (arith, h, size)) v)
        go (inr (s, e)) = record { place = i; below = omega (arith, h, size); holds = begun s e (ticked.new-run i s e) }

    -- An end that is later than t is that of a run, which is over in time.
    later-end : (j : ℕ) → j < count → runs_in booms t (before booms (suc t)) j ≡ true → (t < get_or after j 0) × (get_or after j 0 ≤ all_ticks booms)
    later-end j h on = (ltb-true t (get_or after j 0) (end-running count boxes lengths t j after-runs h ∙ on), go (run-cases (run_at (before booms (suc t)) j)))
      where
        l : j < length booms
        l = omega (arith, h, size)

        go : (run_at (before booms (suc t)) j ≡ waiting) ⊎ ((s : ℕ) × (run_at (before booms (suc t)) j ≡ started s)) → get_or after j 0 ≤ all_ticks booms
        go (inl w) = omega (arith, waiting-end count boxes lengths j after-runs h w)
        go (inr (s, e)) =
            let end : get_or after j 0 ≡ s + (boom_at booms j).ticks = after-runs.end j l ∙ ap (λ (r : Run). Run-end r (boom_at booms j).ticks) e in
            omega (arith, end, (before-state booms (suc t)).within j s l e)

    -- Until the next stop whoever waits meets the same running booms.
    between : (u : ℕ) → suc t ≤ u → u < next → Blocked booms u (before booms (suc t))
    between u a b = record { each = λ i h w. meets-more booms t u i (before booms (suc t)) (before booms (suc t)) on (blocked.each i h w) }
      where
        on : (j : ℕ) → j < length booms → runs_in booms t (before booms (suc t)) j ≡ true → runs_in booms u (before booms (suc t)) j ≡ true
        on j h e =
            let k : j < count = omega (arith, h, size) in
            sym (end-running count boxes lengths u j after-runs k)
            ∙ lt-ltb u (get_or after j 0) (omega (arith, b, n.before-stops j k (later-end j k e).0))

    -- Some boom waits before tick t: the next stop is later, and no later than all runs take.
    pub stop-next : some_below count (λ i. eqb (get_or ends i 0) 0) ≡ true → (t < next) × Stop count boxes lengths next after
    stop-next waits =
        let w = some-true count (λ i. eqb (get_or ends i 0) 0) waits in
        let zero = eqb-true (get_or ends w.place 0) 0 w.holds in
        let r = some_runs w.place w.below (end-waiting count boxes lengths w.place good stop.runs w.below zero) in
        let h : r.place < count = omega (arith, r.below, size) in
        let e = later-end r.place h r.holds in
        let later : t < next = n.later (omega (arith, e.0, e.1, all-few)) in
        let k : suc t + (next - suc t) ≡ next = omega (arith, later) in
        let same : before booms next ≡ before booms (suc t) =
        ap (before booms) (sym k) ∙ before-idle booms (suc t) (next - suc t) (λ u a b. between u a (omega (arith, b, k))) in (
          later,
          record {
            runs = subst (λ (l : List Run). EndsOf booms l after) (sym same) after-runs;
            early = omega (arith, n.before-stops r.place h e.0, e.1);
          },
        )

  -- None waits before tick t: nothing changes any more.
  pub stop-last : (t : ℕ) (ends : List ℕ) → Stop count boxes lengths t ends → some_below count (λ i. eqb (get_or ends i 0) 0) ≡ false
      → EndsOf booms (before booms (all_ticks booms)) ends
  stop-last t ends stop none =
      let k : t + (all_ticks booms - t) ≡ all_ticks booms = omega (arith, stop.early) in
      let idle : (i : ℕ) → i < length booms → run_at (before booms t) i ≡ waiting → ⊥ = λ i h w.
      eqb-false (get_or ends i 0) 0 (some-false count (λ j. eqb (get_or ends j 0) 0) none i (omega (arith, h, size)))
      (waiting-end count boxes lengths i stop.runs (omega (arith, h, size)) w) in
      let same : before booms (all_ticks booms) ≡ before booms t =
      ap (before booms) (sym k) ∙ before-idle booms t (all_ticks booms - t) (λ u a b. record { each = λ i h w. absurd (idle i h w) }) in
      subst (λ (l : List Run). EndsOf booms l ends) (sym same) stop.runs
