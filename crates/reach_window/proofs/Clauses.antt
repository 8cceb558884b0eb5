-- The clauses of a window's query, return by return: `too_many` to `window-done`.
use Prim.Native.Nat.{ℕ, ◌≤◌, ◌<◌}
use mathlib.Core.Path.{◌≡◌, refl, sym, ap, ◌∙◌}
use mathlib.Core.Bool.{Bool, true, false, ◌||◌, cond, true≢false}
use mathlib.Core.List.{List, map}
use native.Mathlib.Omega.{arith}
use borrow.Author.Tests.{eq-eqb, ne_eqb, le-ltb, lt-ltb, eqb-false, ltb-false}
use lib.Dec.{eqb, ltb}
use lib.ListN.{length, replicate, length-map}
use lib.Ieee.{Float}
use Rattle.interval.proofs.refusal.First.{first-stands, first-right}
use Rattle.transform.specs.matrix4x4.Rows.{Rows}
use Rattle.transform.specs.bounds3.declared.Bounds3f.{Bounds3f}
use Rattle.transform.specs.bounds3.List.{Bounds3f-of_list}
use Rattle.transform.specs.Answer.{BoundsAnswer-refusal}
use Rattle.motion_piece.specs.bounds_query.Query.{max_depth, cover_refusal}
use Rattle.reach_laws.specs.motion_chain.Chain.{Chain, first_number, stage}
use Rattle.window_cover.specs.chain_rows.Kept.{Moves-chain}
use Rattle.box_front.specs.declared.Front.{Front}
use Rattle.box_front.specs.means.Front.{Boxes-answers, Bounds3f-tested, Front-of}
use Rattle.box_front.proofs.Counted.{tested-number, box-tested}
use Rattle.motion_fronts.proofs.Front.{front_below}
use Rattle.motion_fronts.proofs.Moved.{passed-depth}
use Rattle.window_times.specs.declared.Window.{Window}
use Rattle.window_times.specs.Window.{Window-refusal}
use Rattle.reach_laws.specs.chain_window.Cover.{Chain-window_cover}
use Rattle.reach_rows.specs.Named.{max_rows}
use Rattle.reach_laws.specs.Reach.{max_boxes, count_refusal}
use Rattle.reach_window.specs.Named.{Moves-cover_number, Moves-window_refusal, window_names, Moves-window_names}
use Rattle.reach_window.specs.means.Poses.{window_poses}
use Rattle.reach_window.specs.means.Walk.{Walks}
use Rattle.reach_window.proofs.Number.{front-number, front-none, front-some, walked, walked-nonzero, window-number}
use Rattle.reach_window.proofs.Names.{window-names}

-- Boxes that are not refused for their number.
pub boxes-counted : (n : ℕ) → (eqb n 0 || ltb max_boxes n) ≡ false → (0 < n) × (n ≤ max_boxes)
boxes-counted n = go (eqb n 0) (ltb max_boxes n) (eqb-false n 0) (ltb-false max_boxes n)
  where
    go : (s t : Bool) → (s ≡ false → n ≡ 0 → ⊥) → (t ≡ false → n ≤ max_boxes) → (s || t) ≡ false → (0 < n) × (n ≤ max_boxes)
    go true t f g e = absurd (true≢false e)
    go false true f g e = absurd (true≢false e)
    go false false f g e = let off = f refl in (omega (arith, off), g refl)

module _ (moves : List Rows) (boxes : List (List Float)) (depth : ℕ) (w : Window) (rows : List (List Float)) where
  abbrev bs : List Bounds3f
  bs = map Bounds3f-of_list boxes

  abbrev rs : List Bounds3f
  rs = map Bounds3f-of_list rows

  abbrev c : Chain
  c = Moves-chain moves

  abbrev Clauses : ℕ → List Bool → Type 0
  Clauses number names = (number ≡ Moves-window_refusal moves bs depth w rs) × (names ≡ Moves-window_names moves bs depth w rs)

  refused : {number : ℕ} {names : List Bool} → number ≡ Moves-window_refusal moves bs depth w rs → (number ≡ 0 → ⊥) → names ≡ replicate max_rows false
      → Clauses number names
  unfolding Moves-window_names
  refused {number} e z n = (e, rw (← e, ne_eqb number 0 z) n)

  box-count : length bs ≡ length boxes
  box-count = length-map boxes Bounds3f-of_list

  row_count : length rs ≡ length rows
  row_count = length-map rows Bounds3f-of_list

  pub boxes-refused : {names : List Bool} → (eqb (length boxes) 0 || ltb max_boxes (length boxes)) ≡ true → names ≡ replicate max_rows false → Clauses 14 names
  boxes-refused t n = refused (number t) (λ e. absurd (omega (arith, e))) n
    where
      number : (eqb (length boxes) 0 || ltb max_boxes (length boxes)) ≡ true → 14 ≡ Moves-window_refusal moves bs depth w rs
      number t = unfold Moves-window_refusal count_refusal first_number in rw (box-count, t) refl

  module _ (some : (eqb (length boxes) 0 || ltb max_boxes (length boxes)) ≡ false) where
    first-passed : count_refusal max_boxes (length bs) ≡ 0
    unfolding count_refusal
    first-passed = rw (box-count, some) refl

    pub rows-refused : {names : List Bool} → max_rows < length rows → names ≡ replicate max_rows false → Clauses 14 names
    rows-refused h n = refused (number (lt-ltb max_rows (length rows) h)) (λ e. absurd (omega (arith, e))) n
      where
        number : ltb max_rows (length rows) ≡ true → 14 ≡ Moves-window_refusal moves bs depth w rs
        number t = unfold Moves-window_refusal first_number in rw (first-passed, row_count, t) refl

    module _ (few : length rows ≤ max_rows) where
      second-passed : ltb max_rows (length rows) ≡ false
      second-passed = le-ltb max_rows (length rows) few

      pub moves-refused : {names : List Bool} → length moves ≡ 0 → names ≡ replicate max_rows false → Clauses 12 names
      moves-refused h n = refused (number (eq-eqb (length moves) 0 h)) (λ e. absurd (omega (arith, e))) n
        where
          number : eqb (length moves) 0 ≡ true → 12 ≡ Moves-window_refusal moves bs depth w rs
          number t = unfold Moves-window_refusal first_number in rw (first-passed, row_count, second-passed, t) refl

      module _ (moving : length moves ≡ 0 → ⊥) where
        third-passed : eqb (length moves) 0 ≡ false
        third-passed = ne_eqb (length moves) 0 moving

        pub ticks-refused : {number : ℕ} {names : List Bool} → number ≡ Window-refusal w → (number ≡ 0 → ⊥) → names ≡ replicate max_rows false → Clauses number names
        ticks-refused {number} e z n = refused (e ∙ same) z n
          where
            same : Window-refusal w ≡ Moves-window_refusal moves bs depth w rs
            same = unfold Moves-window_refusal first_number in rw (first-passed, row_count, second-passed, third-passed) (first-stands (Window-refusal w) _ (λ k. z (e ∙ k)))

        module _ (ticks : Window-refusal w ≡ 0) {judged : Front} (j : judged ≡ Front-of (Boxes-answers (Bounds3f-tested depth) boxes)) where
          tested-stage : (Front-of (Boxes-answers (Bounds3f-tested depth) boxes)).refusal ≡ stage (λ b. cover_refusal b depth) bs
          tested-stage = front-number (Bounds3f-tested depth) (λ b. cover_refusal b depth) (tested-number depth) (box-tested depth) boxes

          judged-number : judged.refusal ≡ stage (λ b. cover_refusal b depth) bs
          judged-number = ap (λ (x : Front). x.refusal) j ∙ tested-stage

          pub arguments-refused : {names : List Bool} → judged.count < length boxes → names ≡ replicate max_rows false → Clauses judged.refusal names
          arguments-refused h n = refused (judged-number ∙ same) nonzero n
            where
              nonzero : judged.refusal ≡ 0 → ⊥
              nonzero e =
                  front-some (Bounds3f-tested depth) (λ b. cover_refusal b depth) (tested-number depth) (box-tested depth) boxes
                  (omega (arith, h, ap (λ (x : Front). x.count) j)) (ap (λ (x : Front). x.refusal) (sym j) ∙ e)

              same : stage (λ b. cover_refusal b depth) bs ≡ Moves-window_refusal moves bs depth w rs
              same = unfold Moves-window_refusal first_number in
                  rw (first-passed, row_count, second-passed, third-passed, ticks) (first-stands (stage (λ b. cover_refusal b depth) bs) _ (λ k. nonzero (judged-number ∙ k)))

          module _ (all : length boxes ≤ judged.count) where
            fifth-passed : stage (λ b. cover_refusal b depth) bs ≡ 0
            fifth-passed =
                front-none (Bounds3f-tested depth) (λ b. cover_refusal b depth) (tested-number depth) (box-tested depth) boxes
                (omega (arith, all, ap (λ (x : Front). x.count) j))

            pub depth-passed : 0 < length boxes → depth ≤ max_depth
            depth-passed h = passed-depth boxes depth (λ e. absurd (omega (arith, e, h, all, ap (λ (x : Front). x.count) j)))

            module _ {front : Front} {new : List Bool} (v : Walks boxes rows (window_poses c depth w) judged front (replicate max_rows false) new) where
              reached : front ≡ Front-of (Boxes-answers (walked c depth w) boxes)
              reached = v.fronts (Bounds3f-tested depth) j

              abbrev number : Bounds3f → ℕ
              number b = BoundsAnswer-refusal (Chain-window_cover c b depth w)

              front-stage : front.refusal ≡ Moves-cover_number moves bs depth w
              front-stage = ap (λ (x : Front). x.refusal) reached ∙ front-number (walked c depth w) number (window-number c depth w ticks) (walked-nonzero c depth w) boxes

              last-number : Moves-cover_number moves bs depth w ≡ Moves-window_refusal moves bs depth w rs
              last-number = unfold Moves-window_refusal first_number in
                  rw (first-passed, row_count, second-passed, third-passed, ticks, fifth-passed) (first-right (Moves-cover_number moves bs depth w))

              pub work-refused : {names : List Bool} → front.count < length boxes → names ≡ replicate max_rows false → Clauses front.refusal names
              work-refused h n = refused (front-stage ∙ last-number) nonzero n
                where
                  nonzero : front.refusal ≡ 0 → ⊥
                  nonzero e =
                      front-some (walked c depth w) number (window-number c depth w ticks) (walked-nonzero c depth w) boxes
                      (omega (arith, h, ap (λ (x : Front). x.count) reached)) (ap (λ (x : Front). x.refusal) (sym reached) ∙ e)

              pub window-done : length boxes ≤ front.count → Clauses 0 new
              window-done h =
                  let counted = ap (λ (x : Front). x.count) reached in
                  let below = front_below (walked c depth w) boxes in
                  let exact : (Front-of (Boxes-answers (walked c depth w) boxes)).count ≡ length boxes = omega (arith, h, below, counted) in
                  let none : Moves-cover_number moves bs depth w ≡ 0 =
                  front-none (walked c depth w) number (window-number c depth w ticks) (walked-nonzero c depth w) boxes (omega (arith, exact)) in
                  let zero : Moves-window_refusal moves bs depth w rs ≡ 0 = sym last-number ∙ none in
                  let names = v.names (Bounds3f-tested depth) j (counted ∙ exact) ∙ window-names c depth w boxes rows few exact in
                  (sym zero, names ∙ sym (named-all zero))
                where
                  named-all : Moves-window_refusal moves bs depth w rs ≡ 0 → Moves-window_names moves bs depth w rs ≡ window_names moves bs depth w rs
                  named-all e = unfold Moves-window_names in rw (eq-eqb (Moves-window_refusal moves bs depth w rs) 0 e)
