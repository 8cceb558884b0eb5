-- The loop over the windows: after k of them the masks are theirs (`Finding`); `finding-first`, `finding-next`, `finding-refused`, `finding-last`.
use Prim.Native.Nat.{ℕ, zero, suc, ◌+◌, ◌-◌, ◌≤◌, ◌<◌}
use mathlib.Core.Path.{◌≡◌, refl, sym, ap, subst, ◌∙◌}
use mathlib.Core.Bool.{Bool, true, false, cond}
use mathlib.Core.List.{List, [], ◌∷◌, ◌++◌, map}
use native.Mathlib.Omega.{arith}
use native.Mathlib.Numerals.{add-one}
use borrow.Author.Tests.{eq-eqb}
use lib.ListN.{length, get_or, take, drop, replicate, drop_of_length-le, length-take}
use lib.Seq.{take_all, length-take-le, take-suc, drop-cons}
use lib.Ieee.{Float, nan}
use Rattle.reached_rows.specs.refusal_below.First.{first_refusal}
use Rattle.reached_rows.proofs.refusal_below.First.{first-stands, first-left}
use Rattle.bounds_query.specs.matrix4x4.Rows.{Rows}
use Rattle.bounds_query.specs.bounds3.declared.Bounds3f.{Bounds3f}
use Rattle.reached_rows.specs.motion_chain.Chain.{Chain, first_number, stage}
use Rattle.reached_rows.specs.chain_rows.Kept.{Moves-chain}
use Rattle.tick_list.specs.Ticks.{max_ticks}
use Rattle.window_times.specs.declared.Window.{Window}
use Rattle.reached_rows.specs.window_meetings.Windows.{windows_of}
use Rattle.reached_rows.specs.window_meetings.Theorem.{tick_window}
use Rattle.reach_window.specs.reach_rows.Named.{max_rows}
use Rattle.reach_window.specs.reach_laws.Reach.{named, mask_of, row_mask}
use Rattle.reach_window.specs.Named.{Moves-window_refusal, window_names, Moves-window_names}
use Rattle.reach_kept.specs.declared.Found.{Found}
use Rattle.reach_kept.specs.means.Masks.{added_mask, added_masks, Below, Found-Is}
use Rattle.reach_kept.proofs.Masks.{mask-more, added-rows, masks-below}

-- ---- windows
windows-length : (ticks : List Float) → length (windows_of ticks) ≡ length ticks - 1
unfolding windows_of
windows-length [] = refl
windows-length (t ∷ []) = refl
windows-length (t ∷ u ∷ ticks) = let h = windows-length (u ∷ ticks) in omega (arith, h)

window-at : (ticks : List Float) (k : ℕ) (none : Window) → k + 1 < length ticks → get_or (windows_of ticks) k none ≡ tick_window ticks k
unfolding windows_of
window-at [] k none h = absurd (omega (arith, h))
window-at (t ∷ []) k none h = absurd (omega (arith, h))
window-at (t ∷ u ∷ ticks) zero none h = refl
window-at (t ∷ u ∷ ticks) (suc k) none h = window-at (u ∷ ticks) k none (omega (arith, h))

-- The window whose later tick has the place i.
abbrev pub window_to : List Float → ℕ → Window
window_to ticks i = record { earlier = get_or ticks (i - 1) nan; later = get_or ticks i nan }

module _ (moves : List Rows) (boxes : List Bounds3f) (depth : ℕ) (ticks : List Float) (rows : List Bounds3f) where
  abbrev c : Chain
  c = Moves-chain moves

  abbrev number : Window → ℕ
  number w = Moves-window_refusal moves boxes depth w rows

  abbrev mask_up_to : List Window → Bounds3f → ℕ
  mask_up_to ws row = mask_of (λ w. named c boxes depth w row) ws

  -- The first i - 1 windows are asked, none of them refused; i is the place of the next one's later tick.
  pub record Finding (masks : List ℕ) (i : ℕ) : Type 0 where
    pub place : 0 < i
    pub rest : stage number (drop (i - 1) (windows_of ticks)) ≡ stage number (windows_of ticks)
    pub found : masks ≡ map (mask_up_to (take (i - 1) (windows_of ticks))) rows ++ replicate (max_rows - length rows) 0

  zeros : (rs : List Bounds3f) (n : ℕ) → length rs ≤ n → replicate {A = ℕ} n 0 ≡ map (λ (r : Bounds3f). 0) rs ++ replicate (n - length rs) 0
  zeros [] n h = let e : n - 0 ≡ n = omega arith in rw e
  zeros (r ∷ rs) zero h = absurd (omega (arith, h))
  zeros (r ∷ rs) (suc n) h =
      let e : suc n - suc (length rs) ≡ n - length rs = omega arith in
      rw e (ap (λ (l : List ℕ). 0 ∷ l) (zeros rs n (omega (arith, h))))

  pub finding-first : length rows ≤ max_rows → Finding (replicate max_rows 0) 1
  unfolding mask_of
  finding-first few = record { place = omega arith; rest = refl; found = zeros rows max_rows few }

  module _ {masks : List ℕ} {i : ℕ} (f : Finding masks i) (h : i < length ticks) {w : Window} (e : w ≡ window_to ticks i) where
    abbrev k : ℕ
    k = i - 1

    after : i ≡ suc k
    after = let p = f.place in omega (arith, p)

    abbrev ws : List Window
    ws = windows_of ticks

    below : k < length ws
    below = let p = f.place in let l = windows-length ticks in omega (arith, h, p, l)

    same : w ≡ tick_window ticks k
    same = e ∙ ap (λ (j : ℕ). record { earlier = get_or ticks k nan; later = get_or ticks j nan }) after

    here : get_or ws k w ≡ w
    here = let p = f.place in window-at ticks k w (omega (arith, h, p)) ∙ sym same

    split : stage number (drop k ws) ≡ first_refusal (number w) (stage number (drop (suc k) ws))
    unfolding first_number
    split = rw (drop-cons ws k w below, here)

    pub finding-few : length ticks ≤ max_ticks → k < 63
    finding-few l = let p = f.place in omega (arith, h, p, l)

    pub finding-below : Below k masks
    finding-below =
        subst (Below k) (sym f.found)
        (masks-below k (λ row w. named c boxes depth w row) (take k ws) (length-take-le k ws (let b = below in omega (arith, b))) rows (max_rows - length rows))

    pub finding-refused : {n : ℕ} → n ≡ number w → (n ≡ 0 → ⊥) → {new : List ℕ} → Found-Is moves boxes depth ticks rows (record { masks = new; refusal = n })
    finding-refused {n} a z = record {
      number = a ∙ first-stands (number w) (stage number (drop (suc k) ws)) (λ q. z (a ∙ q)) ∙ sym split ∙ f.rest;
      masks = λ q. absurd (z q);
    }

    pub finding-next : {n : ℕ} {names : List Bool} {new : List ℕ} → n ≡ number w → n ≡ 0 → names ≡ Moves-window_names moves boxes depth w rows
        → new ≡ added_masks k masks names → Finding new (i + 1)
    finding-next {n} {names} {new} a z q r =
        let none : number w ≡ 0 = sym a ∙ z in
        let s : i + 1 - 1 ≡ suc k = let p = f.place in omega (arith, p) in
        let size = length-take-le k ws (let b = below in omega (arith, b)) in
        let all : take (suc k) ws ≡ take k ws ++ (w ∷ []) = take-suc ws k w below ∙ ap (λ (x : Window). take k ws ++ (x ∷ [])) here in
        let more : (row : Bounds3f) → added_mask k (mask_up_to (take k ws) row) (named c boxes depth w row) ≡ mask_up_to (take (suc k) ws) row =
        λ row. sym (ap (λ (l : List Window). mask_up_to l row) all ∙ mask-more (λ x. named c boxes depth x row) (take k ws) w
        ∙ ap (λ (j : ℕ). added_mask j (mask_up_to (take k ws) row) (named c boxes depth w row)) size) in
        let step : new ≡ map (λ row. added_mask k (mask_up_to (take k ws) row) (named c boxes depth w row)) rows ++ replicate (max_rows - length rows) 0 =
        r ∙ ap (λ (l : List ℕ). added_masks k l names) f.found ∙ ap (added_masks k _) (q ∙ accepted none)
        ∙ added-rows k (mask_up_to (take k ws)) (named c boxes depth w) rows (max_rows - length rows) in
        record {
          place = omega arith;
          rest = rw s (first-left (number w) (stage number (drop (suc k) ws)) none ∙ sym split ∙ f.rest);
          found = rw s (step ∙ ap (λ (g : Bounds3f → ℕ). map g rows ++ replicate (max_rows - length rows) 0) (λ j row. more row j));
        }
      where
        accepted : number w ≡ 0 → Moves-window_names moves boxes depth w rows ≡ window_names moves boxes depth w rows
        accepted z = unfold Moves-window_names in rw (eq-eqb (number w) 0 z)

  pub finding-last : {masks : List ℕ} {i : ℕ} → Finding masks i → length ticks ≤ i → Found-Is moves boxes depth ticks rows (record { masks = masks; refusal = 0 })
  finding-last {masks} {i} f h =
      let p = f.place in
      let l = windows-length ticks in
      let all : length (windows_of ticks) ≤ i - 1 = omega (arith, p, h, l) in
      record {
        number = none all ∙ f.rest;
        masks = λ _. f.found ∙ whole all;
      }
    where
      none : length (windows_of ticks) ≤ i - 1 → 0 ≡ stage number (drop (i - 1) (windows_of ticks))
      none l = unfold first_number in rw (drop_of_length-le (windows_of ticks) {i = i - 1} l)

      whole : length (windows_of ticks) ≤ i - 1 → map (mask_up_to (take (i - 1) (windows_of ticks))) rows ++ replicate (max_rows - length rows) 0
          ≡ map (row_mask c boxes depth ticks) rows ++ replicate (max_rows - length rows) 0
      whole l = unfold row_mask in ap (λ (ws : List Window). map (mask_up_to ws) rows ++ replicate (max_rows - length rows) 0) (take_all (i - 1) (windows_of ticks) l)
