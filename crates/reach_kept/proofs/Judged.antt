-- The tests of the query's arguments as code makes them: `judging` to `judged-all`. Where they are passed, the number of each window is that of its covers:
-- `window-covers`, and of all windows `windows-covers`.
use Prim.Native.Nat.{ℕ, zero, suc, ◌+◌, ◌≤◌, ◌<◌}
use mathlib.Core.Path.{◌≡◌, refl, sym, ap, subst, ◌∙◌}
use mathlib.Core.Bool.{Bool, true, false, ◌&&◌, ◌||◌, cond}
use mathlib.Core.List.{List, [], ◌∷◌, map}
use native.Mathlib.Omega.{arith}
use native.Mathlib.Numerals.{add-one}
use borrow.Author.Tests.{eq-eqb, ne_eqb, le-ltb, lt-ltb, ltb-false, ltb-true}
use lib.Dec.{T, eqb, ltb}
use lib.ListN.{length, get_or, drop, length-map, drop_of_length-le}
use lib.Seq.{drop-cons}
use lib.Ieee.{Float, lt}
use lib.Ieee.Bits.{is_true}
use lib.Ieee.Fits.{and_l, and_r}
use Rattle.reached_rows.specs.refusal_below.First.{first_refusal}
use Rattle.reached_rows.proofs.refusal_below.First.{first-stands, first-left, first-right, first-zero}
use Rattle.bounds_query.specs.matrix4x4.Rows.{Rows}
use Rattle.bounds_query.specs.bounds3.declared.Bounds3f.{Bounds3f}
use Rattle.bounds_query.specs.bounds3.List.{Bounds3f-of_list}
use Rattle.bounds_query.specs.transform.Answer.{BoundsAnswer-refusal}
use Rattle.bounds_query.specs.Query.{Bounds3f-refusal, cover_refusal, max_depth}
use Rattle.reached_rows.specs.bounds_answers.UnionAll.{Each}
use Rattle.reached_rows.specs.motion_chain.Chain.{first_number, stage}
use Rattle.reached_rows.proofs.motion_chain.Built.{first-none}
use Rattle.reached_rows.specs.chain_rows.Kept.{Moves-chain}
use Rattle.tick_list.specs.Ticks.{min_ticks, max_ticks, Ticks-rise, Ticks-refusal}
use Rattle.window_times.specs.declared.Window.{Window}
use Rattle.window_times.specs.Window.{Window-refusal}
use Rattle.reached_rows.specs.chain_window.Cover.{Chain-window_cover}
use Rattle.reached_rows.specs.window_meetings.Windows.{windows_of}
use Rattle.reach_window.specs.reach_rows.Named.{max_rows}
use Rattle.reach_window.specs.reach_laws.Reach.{max_boxes, count_refusal, arguments_refusal, covers_refusal}
use Rattle.reach_window.specs.Named.{Moves-cover_number, Moves-window_refusal}

-- ---- 6 or 7 of the first box that is refused
module _ (boxes : List (List Float)) where
  abbrev pub number_from : ℕ → ℕ
  number_from i = stage Bounds3f-refusal (map Bounds3f-of_list (drop i boxes))

  pub number-first : {i n : ℕ} → i < length boxes → n ≡ Bounds3f-refusal (Bounds3f-of_list (get_or boxes i [])) → (n ≡ 0 → ⊥) → n ≡ number_from i
  unfolding first_number
  number-first {i} {n} h e z = rw (drop-cons boxes i [] h) (e ∙ first-stands (Bounds3f-refusal (Bounds3f-of_list (get_or boxes i []))) _ (λ k. z (e ∙ k)))

  pub number-later : {i n : ℕ} → i < length boxes → n ≡ Bounds3f-refusal (Bounds3f-of_list (get_or boxes i [])) → n ≡ 0 → number_from (i + 1) ≡ number_from i
  unfolding first_number
  number-later {i} {n} h e z = rw (add-one, drop-cons boxes i [] h) (first-left (Bounds3f-refusal (Bounds3f-of_list (get_or boxes i []))) _ (sym e ∙ z))

  pub number-end : {i : ℕ} → length boxes ≤ i → 0 ≡ number_from i
  unfolding first_number
  number-end {i} h = rw (drop_of_length-le boxes {i = i} h)

-- ---- the arguments
-- A count of lists of coordinates is that of their boxes.
pub counted_same : (most : ℕ) (boxes : List (List Float)) {n : ℕ} → n ≡ count_refusal most (length boxes) → n ≡ count_refusal most (length (map Bounds3f-of_list boxes))
counted_same most boxes e = e ∙ ap (count_refusal most) (sym (length-map boxes Bounds3f-of_list))

module _ (boxes : List Bounds3f) (depth : ℕ) (ticks : List Float) (rows : List Bounds3f) where
  abbrev n1 : ℕ
  n1 = count_refusal max_boxes (length boxes)

  abbrev n2 : ℕ
  n2 = count_refusal max_rows (length rows)

  abbrev n3 : ℕ
  n3 = Ticks-refusal ticks

  abbrev n4 : ℕ
  n4 = stage Bounds3f-refusal boxes

  abbrev n5 : ℕ
  n5 = stage Bounds3f-refusal rows

  abbrev whole : ℕ
  whole = arguments_refusal boxes depth ticks rows

  pub first-judged : {n : ℕ} → n ≡ n1 → (n ≡ 0 → ⊥) → n ≡ whole
  unfolding arguments_refusal first_number
  first-judged {n} e z = e ∙ first-stands n1 _ (λ k. z (e ∙ k))

  module _ (z1 : n1 ≡ 0) where
    pub second-judged : {n : ℕ} → n ≡ n2 → (n ≡ 0 → ⊥) → n ≡ whole
    unfolding arguments_refusal first_number
    second-judged {n} e z = rw z1 (e ∙ first-stands n2 _ (λ k. z (e ∙ k)))

    module _ (z2 : n2 ≡ 0) where
      pub third-judged : {n : ℕ} → n ≡ n3 → (n ≡ 0 → ⊥) → n ≡ whole
      unfolding arguments_refusal first_number
      third-judged {n} e z = rw (z1, z2) (e ∙ first-stands n3 _ (λ k. z (e ∙ k)))

      module _ (z3 : n3 ≡ 0) where
        pub fourth-judged : {n : ℕ} → n ≡ n4 → (n ≡ 0 → ⊥) → n ≡ whole
        unfolding arguments_refusal first_number
        fourth-judged {n} e z = rw (z1, z2, z3) (e ∙ first-stands n4 _ (λ k. z (e ∙ k)))

        module _ (z4 : n4 ≡ 0) where
          pub fifth-judged : {n : ℕ} → n ≡ n5 → (n ≡ 0 → ⊥) → n ≡ whole
          unfolding arguments_refusal first_number
          fifth-judged {n} e z = rw (z1, z2, z3, z4) (e ∙ first-stands n5 _ (λ k. z (e ∙ k)))

          module _ (z5 : n5 ≡ 0) where
            pub depth-judged : max_depth < depth → 8 ≡ whole
            unfolding arguments_refusal first_number
            depth-judged h = rw (z1, z2, z3, z4, z5, lt-ltb max_depth depth h) refl

            pub none-judged : depth ≤ max_depth → 0 ≡ whole
            unfolding arguments_refusal first_number
            none-judged h = rw (z1, z2, z3, z4, z5, le-ltb max_depth depth h) refl

  -- ---- passed
  pub record Passed : Type 0 where
    pub few-boxes : count_refusal max_boxes (length boxes) ≡ 0
    pub few-rows : length rows ≤ max_rows
    pub few-ticks : length ticks ≤ max_ticks
    pub rise : T (Ticks-rise ticks)
    pub each-box : stage Bounds3f-refusal boxes ≡ 0
    pub shallow : depth ≤ max_depth

  pub passed : whole ≡ 0 → Passed
  unfolding arguments_refusal
  passed e =
      let depths : ℕ = cond (ltb max_depth depth) 8 0 in
      let (z1, a1) = first-none n1 (n2 ∷ n3 ∷ n4 ∷ n5 ∷ depths ∷ []) e in
      let (z2, a2) = first-none n2 (n3 ∷ n4 ∷ n5 ∷ depths ∷ []) a1 in
      let (z3, a3) = first-none n3 (n4 ∷ n5 ∷ depths ∷ []) a2 in
      let (z4, a4) = first-none n4 (n5 ∷ depths ∷ []) a3 in
      let (z5, a5) = first-none n5 (depths ∷ []) a4 in
      let (z6, _) = first-none depths [] a5 in
      record {
        few-boxes = z1;
        few-rows = counted z2;
        few-ticks = (ticks-passed z3).0;
        rise = (ticks-passed z3).1;
        each-box = z4;
        shallow = deep (ltb max_depth depth) (ltb-false max_depth depth) z6;
      }
    where
      counted : n2 ≡ 0 → length rows ≤ max_rows
      counted = unfold count_refusal in go (eqb (length rows) 0) (ltb max_rows (length rows)) (ltb-false max_rows (length rows))
        where
          go : (s t : Bool) → (t ≡ false → length rows ≤ max_rows) → ◌≡◌ {A = ℕ} (cond (s || t) 14 0) 0 → length rows ≤ max_rows
          go true t f z = absurd (omega (arith, z))
          go false true f z = absurd (omega (arith, z))
          go false false f z = f refl

      ticks-passed : n3 ≡ 0 → (length ticks ≤ max_ticks) × T (Ticks-rise ticks)
      ticks-passed = unfold Ticks-refusal in
          go (ltb (length ticks) min_ticks) (ltb max_ticks (length ticks)) (ltb-false max_ticks (length ticks)) (Ticks-rise ticks) refl
        where
          go : (s t : Bool) → (t ≡ false → length ticks ≤ max_ticks) → (r : Bool) → Ticks-rise ticks ≡ r
              → ◌≡◌ {A = ℕ} (cond (s || t) 21 (cond r 0 21)) 0 → (length ticks ≤ max_ticks) × T (Ticks-rise ticks)
          go true t f r e z = absurd (omega (arith, z))
          go false true f r e z = absurd (omega (arith, z))
          go false false f true e z = (f refl, subst T (sym e) tt)
          go false false f false e z = absurd (omega (arith, z))

      deep : (t : Bool) → (t ≡ false → depth ≤ max_depth) → ◌≡◌ {A = ℕ} (cond t 8 0) 0 → depth ≤ max_depth
      deep true f z = absurd (omega (arith, z))
      deep false f z = f refl

-- ---- the windows
rise-windows : (ticks : List Float) → T (Ticks-rise ticks) → Each (λ w. Window-refusal w ≡ 0) (windows_of ticks)
unfolding Ticks-rise windows_of
rise-windows [] r = tt
rise-windows (t ∷ []) r = tt
rise-windows (t ∷ u ∷ ticks) r =
    let first = is_true (lt t u) (and_l (lt t u) (Ticks-rise (u ∷ ticks)) r) in
    (rw first refl, rise-windows (u ∷ ticks) (and_r (lt t u) (Ticks-rise (u ∷ ticks)) r))

pub covers-passed : (depth : ℕ) → depth ≤ max_depth → (boxes : List Bounds3f) → stage Bounds3f-refusal boxes ≡ 0 → stage (λ b. cover_refusal b depth) boxes ≡ 0
unfolding first_number
covers-passed depth h [] e = refl
covers-passed depth h (b ∷ boxes) e =
    let (z, rest) = first-zero (Bounds3f-refusal b) (stage Bounds3f-refusal boxes) e in
    let own : cover_refusal b depth ≡ 0 = unfold cover_refusal in rw (z, le-ltb max_depth depth h) refl in
    rw own (covers-passed depth h boxes rest)

module _ (moves : List Rows) (boxes : List Bounds3f) (depth : ℕ) (rows : List Bounds3f) (some : length moves ≡ 0 → ⊥)
    (few : count_refusal max_boxes (length boxes) ≡ 0) (few_rows : length rows ≤ max_rows) (each : stage (λ b. cover_refusal b depth) boxes ≡ 0) where
  window-covers : (w : Window) → Window-refusal w ≡ 0 → Moves-window_refusal moves boxes depth w rows ≡ Moves-cover_number moves boxes depth w
  unfolding Moves-window_refusal first_number
  window-covers w z =
      rw (few, le-ltb max_rows (length rows) few_rows, ne_eqb (length moves) 0 some, z, each) (sym (first-right (Moves-cover_number moves boxes depth w)))

  stage-covers : (ws : List Window) → Each (λ w. Window-refusal w ≡ 0) ws
      → stage (λ w. Moves-window_refusal moves boxes depth w rows) ws ≡ stage (λ w. Moves-cover_number moves boxes depth w) ws
  unfolding first_number
  stage-covers [] h = refl
  stage-covers (w ∷ ws) (h, hs) = rw (window-covers w h, stage-covers ws hs)

  pub windows-covers : (ticks : List Float) → T (Ticks-rise ticks)
      → stage (λ w. Moves-window_refusal moves boxes depth w rows) (windows_of ticks) ≡ covers_refusal (Moves-chain moves) boxes depth (windows_of ticks)
  unfolding covers_refusal
  windows-covers ticks r = stage-covers (windows_of ticks) (rise-windows ticks r)
