-- A tick over the ends of runs: it tells the same as the definition's tick, boom by boom: `taking_step`.
use Prim.Native.Nat.{ℕ, suc, ◌+◌, ◌≤◌, ◌<◌}
use mathlib.Core.Path.{◌≡◌, refl, sym, ap, subst, ◌∙◌}
use mathlib.Core.Bool.{Bool, true, false, ◌&&◌}
use mathlib.Core.Logic.{◌⊎◌, inl, inr}
use mathlib.Core.List.{List}
use native.Mathlib.Omega.{arith}
use borrow.Author.Tests.{le-ltb, eqb-true, eqb-false}
use lib.Dec.{T, eqb, ltb}
use lib.ListN.{length, get_or, set, length-set}
use lib.Seq.{get_or-set_same, get_or-set_other, set-get_or}
use lib.Ieee.{Float}
use Rattle.bounds_overlap.specs.Meets.{Bounds3f-meets}
use Rattle.run_schedule.specs.Day.{Boom, Run, waiting, started, Run-goes_on, some_below, boom_at, runs_in, meets_running, taken, taken_below}
use Rattle.run_schedule.proofs.Places.{some_same}
use Rattle.run_schedule.proofs.Tick.{run_at, run-cases, SetAt, set_at, Starts, Stays, taken-cases}
use Rattle.run_starts.specs.Booms.{Booms-of_lists}
use Rattle.run_starts.specs.means.Ends.{GoodLengths, Run-end, EndsOf, runs_and_meets, end_taken, Ticks}
use Rattle.run_starts.proofs.Booms.{booms-length, box-at, ticks-at}

-- A run goes on in tick t where its end is later.
pub end-goes-on : (r : Run) (n t : ℕ) → ltb t (Run-end r n) ≡ Run-goes_on r n t
end-goes-on waiting n t = le-ltb t 0 (omega arith)
end-goes-on (started s) n t = refl

module _ (count : ℕ) (boxes : List (List Float)) (lengths : List ℕ) where
  abbrev pub day_booms : List Boom
  day_booms = Booms-of_lists count boxes lengths

  in_list : (i : ℕ) → i < count → i < length day_booms
  in_list i h = omega (arith, h, booms-length count boxes lengths)

  pub end-running : {runs : List Run} {ends : List ℕ} (t i : ℕ) → EndsOf day_booms runs ends → i < count → ltb t (get_or ends i 0) ≡ runs_in day_booms t runs i
  end-running {runs} t i e h = ap (ltb t) (e.end i (in_list i h)) ∙ end-goes-on (run_at runs i) (boom_at day_booms i).ticks t

  pub meets-same : {runs : List Run} {ends : List ℕ} (t i : ℕ) → EndsOf day_booms runs ends → i < count
      → some_below count (runs_and_meets boxes ends t i) ≡ meets_running day_booms t runs i
  meets-same {runs} {ends} t i e h =
      some_same count (runs_and_meets boxes ends t i)
      (λ j. runs_in day_booms t runs j && Bounds3f-meets (boom_at day_booms i).box (boom_at day_booms j).box)
      (λ j l. rw (end-running t j e l, ← box-at count boxes lengths i h, ← box-at count boxes lengths j l))
      ∙ ap (λ (n : ℕ). some_below n (λ j. runs_in day_booms t runs j && Bounds3f-meets (boom_at day_booms i).box (boom_at day_booms j).box))
      (sym (booms-length count boxes lengths))

  -- ---- 0 is the end of a boom that waits, and of no other
  pub waiting-end : {runs : List Run} {ends : List ℕ} (i : ℕ) → EndsOf day_booms runs ends → i < count → run_at runs i ≡ waiting → get_or ends i 0 ≡ 0
  waiting-end i e h w = e.end i (in_list i h) ∙ ap (λ (r : Run). Run-end r (boom_at day_booms i).ticks) w

  pub end-waiting : {runs : List Run} {ends : List ℕ} (i : ℕ) → GoodLengths count lengths → EndsOf day_booms runs ends → i < count → get_or ends i 0 ≡ 0
      → run_at runs i ≡ waiting
  end-waiting {runs} {ends} i good e h z = go (run-cases (run_at runs i))
    where
      go : (run_at runs i ≡ waiting) ⊎ ((s : ℕ) × (run_at runs i ≡ started s)) → run_at runs i ≡ waiting
      go (inl w) = w
      go (inr (s, q)) =
          let end : get_or ends i 0 ≡ s + (boom_at day_booms i).ticks = e.end i (in_list i h) ∙ ap (λ (r : Run). Run-end r (boom_at day_booms i).ticks) q in
          absurd (omega (arith, end, z, (good i h).0, ticks-at count boxes lengths i h))

  -- ---- one boom is taken
  module _ (good : GoodLengths count lengths) (t i : ℕ) (h : i < count) (runs : List Run) (ends : List ℕ) (e : EndsOf day_booms runs ends) where
    stays : (get_or ends i 0 ≡ 0 → some_below count (runs_and_meets boxes ends t i) ≡ true) → EndsOf day_booms (taken day_booms t i runs) ends
    stays blocked = go (taken-cases day_booms t i runs)
      where
        go : Starts day_booms t i runs ⊎ Stays day_booms t i runs → EndsOf day_booms (taken day_booms t i runs) ends
        go (inl s) = absurd (subst T (sym (sym s.free ∙ sym (meets-same t i e h) ∙ blocked (waiting-end i e h s.waited))) tt)
        go (inr s) = subst (λ (r : List Run). EndsOf day_booms r ends) (sym s.next) e

    starts : i < length ends → get_or ends i 0 ≡ 0 → some_below count (runs_and_meets boxes ends t i) ≡ false
        → EndsOf day_booms (taken day_booms t i runs) (set ends i (t + get_or lengths i 0))
    starts l z free = go (taken-cases day_booms t i runs)
      where
        next : List ℕ
        next = set ends i (t + get_or lengths i 0)

        at : (j : ℕ) → j < length day_booms → SetAt runs i (started t) j
            → get_or (set ends i (t + get_or lengths i 0)) j 0 ≡ Run-end (run_at (set runs i (started t)) j) (boom_at day_booms j).ticks
        at j m (inl (q, here)) =
            let new : get_or (set ends i (t + get_or lengths i 0)) j 0 ≡ t + get_or lengths i 0 =
            ap (λ (k : ℕ). get_or (set ends i (t + get_or lengths i 0)) k 0) q ∙ get_or-set_same ends i (t + get_or lengths i 0) 0 l in
            let run : Run-end (run_at (set runs i (started t)) j) (boom_at day_booms j).ticks ≡ t + (boom_at day_booms j).ticks =
            ap (λ (r : Run). Run-end r (boom_at day_booms j).ticks) here in
            let ticks : (boom_at day_booms j).ticks ≡ get_or lengths i 0 = ap (λ (k : ℕ). (boom_at day_booms k).ticks) q ∙ ticks-at count boxes lengths i h in
            omega (arith, new, run, ticks)
        at j m (inr (q, other)) =
            get_or-set_other ends i j (t + get_or lengths i 0) 0 q ∙ e.end j m ∙ sym (ap (λ (r : Run). Run-end r (boom_at day_booms j).ticks) other)

        go : Starts day_booms t i runs ⊎ Stays day_booms t i runs → EndsOf day_booms (taken day_booms t i runs) (set ends i (t + get_or lengths i 0))
        go (inl s) =
            subst (λ (r : List Run). EndsOf day_booms r (set ends i (t + get_or lengths i 0))) (sym s.next) (
            record {
              size = length-set runs i (started t) ∙ e.size;
              end = λ j m. at j m (set_at runs i (started t) j (omega (arith, in_list i h, e.size)));
            }
            )
        go (inr s) =
            absurd (subst T (sym (sym free ∙ meets-same t i e h ∙ s.blocked (end-waiting i good e h z))) tt)

  -- ---- the first i booms are taken; the places of the others are as they were
  pub record Taking (t i : ℕ) (old new : List ℕ) : Type 0 where
    pub each : (runs : List Run) → EndsOf day_booms runs old → EndsOf day_booms (taken_below day_booms t i runs) new
    pub rest : (j : ℕ) → i ≤ j → get_or new j 0 ≡ get_or old j 0

  pub taking-first : (t : ℕ) (old : List ℕ) → Taking t 0 old old
  taking-first t old = record { each = λ runs e. unfold taken_below in e; rest = λ j h. refl }

  taking-next : (t i : ℕ) (old new : List ℕ) (v : ℕ)
      → ((runs : List Run) → EndsOf day_booms (taken_below day_booms t i runs) new
      → EndsOf day_booms (taken day_booms t i (taken_below day_booms t i runs)) (set new i v))
      → Taking t i old new → Taking t (i + 1) old (set new i v)
  taking-next t i old new v step k =
      let n : suc i ≡ i + 1 = omega arith in
      subst (λ (m : ℕ). Taking t m old (set new i v)) n (
      record {
        each = λ runs e. unfold taken_below in step runs (k.each runs e);
        rest = λ j h. get_or-set_other new i j v 0 (λ q. absurd (omega (arith, h, q))) ∙ k.rest j (omega (arith, h));
      }
      )

  -- The boom at i is taken.
  pub taking_step : GoodLengths count lengths → (t i : ℕ) (old new : List ℕ) → i < count → i < length new → Taking t i old new
      → Taking t (i + 1) old (set new i (end_taken boxes lengths count t (get_or old i 0) new i))
  taking_step good t i old new h l k =
      go (eqb (get_or new i 0) 0) (some_below count (runs_and_meets boxes new t i)) refl refl (eqb-true (get_or new i 0) 0) (eqb-false (get_or new i 0) 0)
      (sym (k.rest i (omega arith)))
    where
      next : (v : ℕ) → end_taken boxes lengths count t (get_or old i 0) new i ≡ v
          → ((runs : List Run) → EndsOf day_booms (taken_below day_booms t i runs) new
          → EndsOf day_booms (taken day_booms t i (taken_below day_booms t i runs)) (set new i v))
          → Taking t (i + 1) old (set new i (end_taken boxes lengths count t (get_or old i 0) new i))
      next v e step = subst (λ (x : ℕ). Taking t (i + 1) old (set new i x)) (sym e) (taking-next t i old new v step k)

      -- What stays is put back.
      back : (v : ℕ) → get_or new i 0 ≡ v → (runs : List Run) → EndsOf day_booms runs new → EndsOf day_booms runs (set new i v)
      back v e runs o = subst (EndsOf day_booms runs) (sym (ap (set new i) (sym e) ∙ set-get_or new i 0)) o

      go : (z m : Bool) → eqb (get_or new i 0) 0 ≡ z → some_below count (runs_and_meets boxes new t i) ≡ m
          → (eqb (get_or new i 0) 0 ≡ true → get_or new i 0 ≡ 0) → (eqb (get_or new i 0) 0 ≡ false → get_or new i 0 ≡ 0 → ⊥)
          → get_or old i 0 ≡ get_or new i 0
          → Taking t (i + 1) old (set new i (end_taken boxes lengths count t (get_or old i 0) new i))
      go true false z m f g same =
          next (t + get_or lengths i 0) (unfold end_taken in rw (same, z, m)) (λ runs e. starts good t i h (taken_below day_booms t i runs) new e l (f z) m)
      go true true z m f g same =
          next 0 (unfold end_taken in rw (same, z, m))
          (λ runs e. back 0 (f z) (taken day_booms t i (taken_below day_booms t i runs)) (stays good t i h (taken_below day_booms t i runs) new e (λ _. m)))
      go false m z q f g same =
          next (get_or new i 0) (unfold end_taken in rw (same, z))
          (λ runs e.
          back (get_or new i 0) refl (taken day_booms t i (taken_below day_booms t i runs))
          (stays good t i h (taken_below day_booms t i runs) new e (λ w. absurd (g z w))))

  pub taking-last : (t i : ℕ) (old new : List ℕ) → i ≡ count → Taking t i old new → Ticks day_booms t old new
  taking-last t i old new q k runs e =
      subst (λ (m : ℕ). EndsOf day_booms (taken_below day_booms t m runs) new) (q ∙ sym (booms-length count boxes lengths)) (k.each runs e)
