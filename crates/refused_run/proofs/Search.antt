-- The run that the definition finds in a refused chain is the shortest with its number, and the leftmost among equals: `shortest-with`. It is
-- one of one pose, or else of two: `first-of-two`, so that the code's answer is the definition's, `found-clauses`; what it gives otherwise,
-- `accepted-clauses` and `twelve-clauses`. Whatever the poses, the run lies among them, `run-within`, and its number is 0 or 12, `run-refusal`.
use Prim.Native.Nat.{ℕ, zero, suc, ◌+◌, ◌≤◌, ◌<◌}
use mathlib.Core.Path.{◌≡◌, refl, sym, ap, ◌∙◌}
use mathlib.Core.Bool.{Bool, true, false, not, cond}
use mathlib.Core.Logic.{inl, inr}
use mathlib.Core.List.{List, [], ◌∷◌}
use native.Mathlib.Omega.{arith}
use borrow.Author.Tests.{eq-eqb, ne_eqb, eqb-false}
use lib.Dec.{T, eqb, eqb_refl, eqb→eq, ltb→lt, lt→ltb, T_not, not_T}
use lib.ListN.{length}
use Rattle.chain_number.specs.transform.Answer.{OneOf}
use Rattle.chain_number.specs.pose_pair.declared.Pose.{Pose}
use Rattle.chain_number.specs.motion_chain.Chain.{first_number, chain_refusal, Chain-new}
use Rattle.chain_number.specs.Number.{Chain-number}
use Rattle.refused_run.specs.declared.Run.{Run}
use Rattle.refused_run.specs.Run.{run_at, run_number, run_places, leftmost_place, has_run, shortest_length, leftmost_run, shortest_run}
use Rattle.refused_run.specs.means.Tried.{first_of}
use Rattle.refused_run.specs.Theorem.{ShortestWith, ShortestRefused}
use Rattle.refused_run.proofs.Least.{least-below, least-passes, least_first, least-is}
use Rattle.refused_run.proofs.ShortRun.{ShortRun, short-run}

no-poses : (rigid : Bool) → Chain-number rigid [] ≡ 12
unfolding Chain-number Chain-new chain_refusal first_number
no-poses rigid = refl

module _ (rigid : Bool) (poses : List Pose) (n : ℕ) where
  abbrev test : ℕ → ℕ → Bool
  test count place = eqb (run_number rigid (run_at poses place count)) n

  abbrev has : ℕ → Bool
  has count = has_run rigid poses n count

  passes : (place count : ℕ) → run_number rigid (run_at poses place count) ≡ n → T (test count place)
  passes place count e = rw e (eqb_refl n)

  pub has-run : (place count : ℕ) → place + count ≤ length poses → run_number rigid (run_at poses place count) ≡ n → T (has count)
  unfolding leftmost_place
  has-run place count within e =
      let inside : place < run_places (length poses) count = omega (arith, within) in
      let first = least_first (test count) (run_places (length poses) count) place inside (passes place count e) in
      lt→ltb (leftmost_place rigid poses n count) (run_places (length poses) count) (omega (arith, first, inside))

  pub run-found : (count : ℕ) → T (has count) → run_number rigid (run_at poses (leftmost_place rigid poses n count) count) ≡ n
  unfolding leftmost_place
  run-found count h =
      eqb→eq (run_number rigid (run_at poses (leftmost_place rigid poses n count) count)) n
      (least-passes (test count) (run_places (length poses) count) (ltb→lt (leftmost_place rigid poses n count) (run_places (length poses) count) h))

  none_left : (place count : ℕ) → place < leftmost_place rigid poses n count → run_number rigid (run_at poses place count) ≡ n → ⊥
  unfolding leftmost_place
  none_left place count h e = T_not (test count place) (least-below (test count) (run_places (length poses) count) place h) (passes place count e)

  module _ (not-twelve : n ≡ 12 → ⊥) (s : ShortRun rigid poses n) where
    none-empty : T (not (has 0))
    unfolding run_number
    none-empty = not_T (has 0) (λ h. not-twelve (sym (run-found 0 h) ∙ no-poses rigid))

    has_short : T (has s.count)
    has_short = has-run s.place s.count s.within s.same_number

    short-bound : s.count < suc (length poses)
    short-bound = let w = s.within in omega (arith, w)

    abbrev best : ℕ
    best = shortest_length rigid poses n

    best-short : best ≤ s.count
    unfolding shortest_length
    best-short = least_first has (suc (length poses)) s.count short-bound has_short

    has-best : T (has best)
    unfolding shortest_length
    has-best = let h = best-short in let b = short-bound in least-passes has (suc (length poses)) (omega (arith, h, b))

    none-shorter : (place count : ℕ) → count < best → place + count ≤ length poses → run_number rigid (run_at poses place count) ≡ n → ⊥
    unfolding shortest_length
    none-shorter place count h within e = T_not (has count) (least-below has (suc (length poses)) count h) (has-run place count within e)

    some : (count : ℕ) → T (has count) → 0 < count
    some zero h = absurd (T_not (has 0) none-empty h)
    some (suc count) h = omega arith

    pub shortest-with : ShortestWith rigid poses n (leftmost_run rigid poses n best)
    unfolding leftmost_run
    shortest-with =
        let inside = ltb→lt (leftmost_place rigid poses n best) (run_places (length poses) best) has-best in
        let first = best-short in
        let two = s.short in
        record {
          found = refl;
          some = some best has-best;
          within = omega (arith, inside);
          same_number = run-found best has-best;
          no-shorter = none-shorter;
          none_left = λ place h e. none_left place best h e;
          at_most_two = omega (arith, first, two);
        }

    -- ---- one pose, or else two
    one : T (has 1) → best ≡ 1
    unfolding shortest_length
    one h = least-is has (suc (length poses)) 1 (omega arith) below (λ _. h)
      where
        below : (j : ℕ) → j < 1 → T (not (has j))
        below zero l = none-empty
        below (suc j) l = absurd (omega (arith, l))

    has-two : (count : ℕ) → 0 < count → count ≤ 2 → T (not (has 1)) → T (has count) → T (has 2)
    has-two zero l u none h = absurd (omega (arith, l))
    has-two (suc zero) l u none h = absurd (T_not (has 1) none h)
    has-two (suc (suc zero)) l u none h = h
    has-two (suc (suc (suc count))) l u none h = absurd (omega (arith, u))

    two : T (not (has 1)) → best ≡ 2
    unfolding shortest_length
    two none =
        let w = s.within in
        let l = s.some in
        least-is has (suc (length poses)) 2 (omega (arith, w, l)) below (λ _. has-two s.count s.some s.short none has_short)
      where
        below : (j : ℕ) → j < 2 → T (not (has j))
        below zero l = none-empty
        below (suc zero) l = none
        below (suc (suc j)) l = absurd (omega (arith, l))

    pub first-of-two : first_of rigid poses n 1 2 ≡ leftmost_run rigid poses n best
    unfolding first_of
    first-of-two = go (has 1) (λ h. h) (λ h. h)
      where
        go : (b : Bool) → (T b → T (has 1)) → (T (not b) → T (not (has 1)))
            → cond b (leftmost_run rigid poses n 1) (leftmost_run rigid poses n 2) ≡ leftmost_run rigid poses n best
        go true h none = ap (leftmost_run rigid poses n) (sym (one (h tt)))
        go false h none = ap (leftmost_run rigid poses n) (sym (two (none tt)))

-- ---- the clauses of the code
abbrev pub Clauses : Bool → List Pose → Run → Type 0
Clauses rigid poses r = (r ≡ shortest_run rigid poses) × ShortestRefused rigid poses r

module _ (rigid : Bool) (poses : List Pose) {n : ℕ} (same : n ≡ Chain-number rigid poses) where
  pub accepted-clauses : n ≡ 0 → Clauses rigid poses (record { place = 0; length = 0; refusal = 0 })
  unfolding shortest_run
  accepted-clauses z = (rw (eq-eqb (Chain-number rigid poses) 0 (sym same ∙ z)), λ f g. absurd (f (sym same ∙ z)))

  pub twelve-clauses : (n ≡ 0 → ⊥) → n ≡ 12 → Clauses rigid poses (record { place = 0; length = 0; refusal = 12 })
  unfolding shortest_run
  twelve-clauses f e =
      (rw (ne_eqb (Chain-number rigid poses) 0 (λ z. f (same ∙ z)), eq-eqb (Chain-number rigid poses) 12 (sym same ∙ e)), λ f g. absurd (g (sym same ∙ e)))

  pub found-clauses : (n ≡ 0 → ⊥) → (n ≡ 12 → ⊥) → {r : Run} → r ≡ first_of rigid poses n 1 2 → Clauses rigid poses r
  unfolding shortest_run
  found-clauses f g {r} e =
      let number = Chain-number rigid poses in
      let f' : number ≡ 0 → ⊥ = λ z. f (same ∙ z) in
      let g' : number ≡ 12 → ⊥ = λ z. g (same ∙ z) in
      let s = short-run rigid poses f' g' in
      let first : r ≡ leftmost_run rigid poses number (shortest_length rigid poses number) =
      e ∙ (ap (λ k. first_of rigid poses k 1 2) same ∙ first-of-two rigid poses number g' s) in
      (first ∙ rw (ne_eqb number 0 f', ne_eqb number 12 g'), λ _ _. rw first (shortest-with rigid poses number g' s))

-- ---- for all poses
module _ (rigid : Bool) (poses : List Pose) where
  abbrev number : ℕ
  number = Chain-number rigid poses

  abbrev found : Run
  found = leftmost_run rigid poses number (shortest_length rigid poses number)

  -- what holds of the three ways in which the definition ends
  each_way : (P : Run → Type 0) → P (record { place = 0; length = 0; refusal = 0 }) → P (record { place = 0; length = 0; refusal = 12 })
      → (ShortestWith rigid poses number found → P found) → P (shortest_run rigid poses)
  unfolding shortest_run
  each_way P none twelve some = go (eqb number 0) (eqb number 12) (eqb-false number 0) (eqb-false number 12)
    where
      go : (a b : Bool) → (a ≡ false → number ≡ 0 → ⊥) → (b ≡ false → number ≡ 12 → ⊥)
          → P (cond a (record { place = 0; length = 0; refusal = 0 }) (cond b (record { place = 0; length = 0; refusal = 12 }) found))
      go true b f g = none
      go false true f g = twelve
      go false false f g = some (shortest-with rigid poses number (g refl) (short-run rigid poses (f refl) (g refl)))

  pub run-within : (shortest_run rigid poses).place + (shortest_run rigid poses).length ≤ length poses
  run-within = each_way (λ r. r.place + r.length ≤ length poses) (omega arith) (omega arith) (λ s. s.within)

  pub run-refusal : OneOf (shortest_run rigid poses).refusal (0 ∷ 12 ∷ [])
  run-refusal = each_way (λ r. OneOf r.refusal (0 ∷ 12 ∷ [])) (inl refl) (inr (inl refl)) (λ s. inl s.found)
