-- One tick over the list: what a start keeps every tick keeps, `tick-keeps`; so runs go on as they were started, `Ticked`;
-- and a boom that waits after the tick meets one that runs, `tick-blocks`.
use Prim.Native.Nat.{ℕ, zero, suc, ◌+◌, ◌≤◌, ◌<◌}
use mathlib.Core.Path.{◌≡◌, refl, sym, ap, subst, ◌∙◌}
use mathlib.Core.Bool.{Bool, true, false, not, ◌&&◌, cond}
use mathlib.Core.Logic.{◌⊎◌, inl, inr}
use mathlib.Core.List.{List, map}
use native.Mathlib.Omega.{arith}
use borrow.Author.Tests.{eqb-true, eqb-false}
use lib.Dec.{T, eqb}
use lib.ListN.{length, get_or, set, length-set, length-map}
use lib.Seq.{get_or-set_same, get_or-set_other}
use Rattle.bounds_overlap.specs.Meets.{Bounds3f-meets}
use Rattle.run_schedule.specs.Day.{Boom, Run, waiting, started, Run-waits, Run-goes_on, Run-start}
use Rattle.run_schedule.specs.Day.{some_below, boom_at, runs_in, meets_running, taken, taken_below, before}
use Rattle.run_schedule.proofs.Places.{below_last, Some, some-true, some-here}

-- ---- runs
abbrev pub run_at : List Run → ℕ → Run
run_at runs i = get_or runs i waiting

pub started-not-waiting : (s : ℕ) → started s ≡ waiting → ⊥
started-not-waiting s e = subst T (sym (ap Run-waits e)) tt

pub started-same : (s u : ℕ) → started s ≡ started u → s ≡ u
started-same s u e = ap Run-start e

-- A run is that of a boom that waits, or it was started in some tick.
pub run-cases : (r : Run) → (r ≡ waiting) ⊎ ((s : ℕ) × (r ≡ started s))
run-cases waiting = inl refl
run-cases (started s) = inr (s, refl)

-- A place of the list after a run was put at k: that place, or another.
abbrev pub SetAt : List Run → ℕ → Run → ℕ → Type 0
SetAt runs k r i = ((i ≡ k) × (run_at (set runs k r) i ≡ r)) ⊎ ((i ≡ k → ⊥) × (run_at (set runs k r) i ≡ run_at runs i))

pub set_at : (runs : List Run) (k : ℕ) (r : Run) (i : ℕ) → k < length runs → SetAt runs k r i
set_at runs k r i h = go (eqb i k) (eqb-true i k) (eqb-false i k)
  where
    go : (b : Bool) → (b ≡ true → i ≡ k) → (b ≡ false → i ≡ k → ⊥) → SetAt runs k r i
    go true f g = inl (f refl, ap (run_at (set runs k r)) (f refl) ∙ get_or-set_same runs k r waiting h)
    go false f g = inr (g refl, get_or-set_other runs k i r waiting (g refl))

pub both_true : (s t : Bool) → (s && t) ≡ true → (s ≡ true) × (t ≡ true)
both_true true t e = (refl, e)
both_true false t e = (e, absurd (subst T (sym e) tt))

module _ (booms : List Boom) where
  -- ---- one boom is taken: it starts, or all stays as it is
  pub record Starts (t i : ℕ) (runs : List Run) : Type 0 where
    pub next : taken booms t i runs ≡ set runs i (started t)
    pub waited : run_at runs i ≡ waiting
    pub free : meets_running booms t runs i ≡ false

  pub record Stays (t i : ℕ) (runs : List Run) : Type 0 where
    pub next : taken booms t i runs ≡ runs
    pub blocked : run_at runs i ≡ waiting → meets_running booms t runs i ≡ true

  pub taken-cases : (t i : ℕ) (runs : List Run) → Starts t i runs ⊎ Stays t i runs
  unfolding taken
  taken-cases t i runs = go (run_at runs i) (meets_running booms t runs i) refl refl
    where
      go : (r : Run) (m : Bool) → run_at runs i ≡ r → meets_running booms t runs i ≡ m → Starts t i runs ⊎ Stays t i runs
      go waiting false e f = inl (record { next = unfold taken in rw (e, f); waited = e; free = f })
      go waiting true e f = inr (record { next = unfold taken in rw (e, f); blocked = λ _. f })
      go (started s) m e f = inr (record { next = unfold taken in rw e; blocked = λ w. absurd (started-not-waiting s (sym e ∙ w)) })

  -- ---- what a start keeps, the tick keeps
  pub record StartKeeps (t : ℕ) (P : List Run → Type 0) : Type 0 where
    pub kept : (i : ℕ) (runs : List Run) → i < length booms → length runs ≡ length booms → P runs
        → run_at runs i ≡ waiting → meets_running booms t runs i ≡ false → P (set runs i (started t))

  taken-size : (t i : ℕ) (runs : List Run) → length (taken booms t i runs) ≡ length runs
  taken-size t i runs = go (taken-cases t i runs)
    where
      go : Starts t i runs ⊎ Stays t i runs → length (taken booms t i runs) ≡ length runs
      go (inl s) = rw s.next (length-set runs i (started t))
      go (inr s) = rw s.next

  pub tick-size : (t k : ℕ) (runs : List Run) → length (taken_below booms t k runs) ≡ length runs
  unfolding taken_below
  tick-size t zero runs = refl
  tick-size t (suc k) runs = taken-size t k (taken_below booms t k runs) ∙ tick-size t k runs

  pub before-size : (t : ℕ) → length (before booms t) ≡ length booms
  unfolding before
  before-size zero = length-map booms (λ b. waiting)
  before-size (suc t) = tick-size t (length booms) (before booms t) ∙ before-size t

  taken-keeps : {t : ℕ} {P : List Run → Type 0} → StartKeeps t P → (i : ℕ) (runs : List Run) → i < length booms → length runs ≡ length booms
      → P runs → P (taken booms t i runs)
  taken-keeps {t} {P} keeps i runs h l p = go (taken-cases t i runs)
    where
      go : Starts t i runs ⊎ Stays t i runs → P (taken booms t i runs)
      go (inl s) = subst P (sym s.next) (keeps.kept i runs h l p s.waited s.free)
      go (inr s) = subst P (sym s.next) p

  pub tick-keeps : {t : ℕ} {P : List Run → Type 0} → StartKeeps t P → (k : ℕ) (runs : List Run) → k ≤ length booms → length runs ≡ length booms
      → P runs → P (taken_below booms t k runs)
  unfolding taken_below
  tick-keeps {t} keeps zero runs h l p = p
  tick-keeps {t} keeps (suc k) runs h l p =
      taken-keeps keeps k (taken_below booms t k runs) (omega (arith, h)) (tick-size t k runs ∙ l) (tick-keeps keeps k runs (omega (arith, h)) l p)

  -- ---- runs go on as they were started
  pub record Ticked (t : ℕ) (old new : List Run) : Type 0 where
    pub kept : (i s : ℕ) → run_at old i ≡ started s → run_at new i ≡ started s
    pub waited : (i : ℕ) → run_at new i ≡ waiting → run_at old i ≡ waiting
    pub new-run : (i s : ℕ) → run_at new i ≡ started s → (run_at old i ≡ started s) ⊎ ((run_at old i ≡ waiting) × (s ≡ t))

  ticked-start : (t : ℕ) (old : List Run) → StartKeeps t (Ticked t old)
  ticked-start t old =
      record {
        kept = λ k runs h l p w f.
            let at : (i : ℕ) → SetAt runs k (started t) i = λ i. set_at runs k (started t) i (omega (arith, h, l)) in
            record {
              kept = λ i s e. kept_at k i s runs p w e (at i);
              waited = λ i e. waited-at k i runs p e (at i);
              new-run = λ i s e. new-at k i s runs p w e (at i);
            };
      }
    where
      kept_at : (k i s : ℕ) (runs : List Run) → Ticked t old runs → run_at runs k ≡ waiting → run_at old i ≡ started s
          → SetAt runs k (started t) i → run_at (set runs k (started t)) i ≡ started s
      kept_at k i s runs p w e (inl (f, here)) = absurd (started-not-waiting s (sym (p.kept i s e) ∙ ap (run_at runs) f ∙ w))
      kept_at k i s runs p w e (inr (f, other)) = other ∙ p.kept i s e

      waited-at : (k i : ℕ) (runs : List Run) → Ticked t old runs → run_at (set runs k (started t)) i ≡ waiting
          → SetAt runs k (started t) i → run_at old i ≡ waiting
      waited-at k i runs p e (inl (f, here)) = absurd (started-not-waiting t (sym here ∙ e))
      waited-at k i runs p e (inr (f, other)) = p.waited i (sym other ∙ e)

      new-at : (k i s : ℕ) (runs : List Run) → Ticked t old runs → run_at runs k ≡ waiting → run_at (set runs k (started t)) i ≡ started s
          → SetAt runs k (started t) i → (run_at old i ≡ started s) ⊎ ((run_at old i ≡ waiting) × (s ≡ t))
      new-at k i s runs p w e (inl (f, here)) = inr (p.waited i (ap (run_at runs) f ∙ w), started-same s t (sym e ∙ here))
      new-at k i s runs p w e (inr (f, other)) = p.new-run i s (sym other ∙ e)

  pub tick-ticked : (t k : ℕ) (runs : List Run) → k ≤ length booms → length runs ≡ length booms → Ticked t runs (taken_below booms t k runs)
  tick-ticked t k runs h l =
      tick-keeps (ticked-start t runs) k runs h l (record { kept = λ i s e. e; waited = λ i e. e; new-run = λ i s e. inl e })

  -- ---- a boom that waits after the tick meets one that runs
  pub meets-more : (t u i : ℕ) (runs more : List Run) → ((j : ℕ) → j < length booms → runs_in booms t runs j ≡ true → runs_in booms u more j ≡ true)
      → meets_running booms t runs i ≡ true → meets_running booms u more i ≡ true
  meets-more t u i runs more on e =
      let s = some-true (length booms) (λ j. runs_in booms t runs j && Bounds3f-meets (boom_at booms i).box (boom_at booms j).box) e in
      let j = s.place in
      let (r, m) = both_true (runs_in booms t runs j) (Bounds3f-meets (boom_at booms i).box (boom_at booms j).box) s.holds in
      some-here (length booms) (λ k. runs_in booms u more k && Bounds3f-meets (boom_at booms i).box (boom_at booms k).box) j s.below
      (rw (on j s.below r) m)

  pub meets-runs : (t i : ℕ) (runs : List Run) → meets_running booms t runs i ≡ true → Some (length booms) (runs_in booms t runs)
  meets-runs t i runs e =
      let s = some-true (length booms) (λ j. runs_in booms t runs j && Bounds3f-meets (boom_at booms i).box (boom_at booms j).box) e in
      let j = s.place in
      record {
        place = j;
        below = s.below;
        holds = (both_true (runs_in booms t runs j) (Bounds3f-meets (boom_at booms i).box (boom_at booms j).box) s.holds).0;
      }

  -- Each of the first k booms that waits meets one that runs in tick t.
  pub record BlockedBelow (k t : ℕ) (runs : List Run) : Type 0 where
    pub each : (i : ℕ) → i < k → run_at runs i ≡ waiting → meets_running booms t runs i ≡ true

  abbrev pub Blocked : ℕ → List Run → Type 0
  Blocked t runs = BlockedBelow (length booms) t runs

  -- A boom that waits does not run.
  running-started : (t k j : ℕ) (runs : List Run) → run_at runs k ≡ waiting → runs_in booms t runs j ≡ true → j ≡ k → ⊥
  running-started t k j runs w r e =
      let idle : runs_in booms t runs j ≡ false = ap (λ (x : Run). Run-goes_on x (boom_at booms j).ticks t) (ap (run_at runs) e ∙ w) in
      subst T (sym (sym idle ∙ r)) tt

  taken-blocks : (t k : ℕ) (runs : List Run) → k < length runs → BlockedBelow k t runs → BlockedBelow (suc k) t (taken booms t k runs)
  taken-blocks t k runs h b = go (taken-cases t k runs)
    where
      waits-on : (i : ℕ) → i < suc k → run_at runs k ≡ waiting → run_at (set runs k (started t)) i ≡ waiting → SetAt runs k (started t) i
          → meets_running booms t (set runs k (started t)) i ≡ true
      waits-on i l w e (inl (f, here)) = absurd (started-not-waiting t (sym here ∙ e))
      waits-on i l w e (inr (f, other)) =
          meets-more t t i runs (set runs k (started t))
          (λ j m r. ap (λ (x : Run). Run-goes_on x (boom_at booms j).ticks t) (get_or-set_other runs k j (started t) waiting (running-started t k j runs w r)) ∙ r)
          (b.each i (omega (arith, l, f)) (sym other ∙ e))

      go : Starts t k runs ⊎ Stays t k runs → BlockedBelow (suc k) t (taken booms t k runs)
      go (inl s) =
          subst (BlockedBelow (suc k) t) (sym s.next) (record { each = λ i l e. waits-on i l s.waited e (set_at runs k (started t) i h) })
      go (inr s) =
          subst (BlockedBelow (suc k) t) (sym s.next) (
          record {
            each = λ i l.
                below_last (λ (j : ℕ). run_at runs j ≡ waiting → meets_running booms t runs j ≡ true) k i l (λ m. b.each i m) s.blocked;
          }
          )

  tick-blocks-below : (t k : ℕ) (runs : List Run) → k ≤ length runs → BlockedBelow k t (taken_below booms t k runs)
  unfolding taken_below
  tick-blocks-below t zero runs h = record { each = λ i l. absurd (omega (arith, l)) }
  tick-blocks-below t (suc k) runs h =
      taken-blocks t k (taken_below booms t k runs) (omega (arith, h, tick-size t k runs)) (tick-blocks-below t k runs (omega (arith, h)))

  pub tick-blocks : (t : ℕ) (runs : List Run) → length runs ≡ length booms → Blocked t (taken_below booms t (length booms) runs)
  tick-blocks t runs l = tick-blocks-below t (length booms) runs (omega (arith, l))

  -- ---- where no boom that waits may start, the tick changes nothing
  taken-idle : (t i : ℕ) (runs : List Run) → i < length booms → Blocked t runs → taken booms t i runs ≡ runs
  taken-idle t i runs h b = go (taken-cases t i runs)
    where
      go : Starts t i runs ⊎ Stays t i runs → taken booms t i runs ≡ runs
      go (inl s) = absurd (subst T (sym (b.each i h s.waited) ∙ s.free) tt)
      go (inr s) = s.next

  tick-idle : (t k : ℕ) (runs : List Run) → k ≤ length booms → Blocked t runs → taken_below booms t k runs ≡ runs
  unfolding taken_below
  tick-idle t zero runs h b = refl
  tick-idle t (suc k) runs h b = rw (tick-idle t k runs (omega (arith, h)) b) (taken-idle t k runs (omega (arith, h)) b)

  pub before-idle : (t d : ℕ) → ((u : ℕ) → t ≤ u → u < t + d → Blocked u (before booms t)) → before booms (t + d) ≡ before booms t
  before-idle t zero b = ap (before booms) (omega arith)
  before-idle t (suc d) b =
      let same : before booms (t + d) ≡ before booms t = before-idle t d (λ u l h. b u l (omega (arith, h))) in
      let n : t + suc d ≡ suc (t + d) = omega arith in
      ap (before booms) n ∙ next (t + d) (before booms t) same (b (t + d) (omega arith) (omega arith))
    where
      next : (u : ℕ) (runs : List Run) → before booms u ≡ runs → Blocked u runs → before booms (suc u) ≡ runs
      next u runs e blocked = unfold before in ap (taken_below booms u (length booms)) e ∙ tick-idle u (length booms) runs (omega arith) blocked
