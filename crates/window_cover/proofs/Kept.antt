-- What is kept of a chain is asked for a window's cover as the chain is, `kept-window`; so the guarantee holds of the rows,
-- `kept-window-contains`, and a finer cover is no wider, `kept-window-finer`. It gives a window's numbers and 12 alone, `kept-window-numbered`.
-- The clauses of the query, from its value: `window-clauses`.
use Prim.Native.Nat.{ℕ, ◌+◌, ◌-◌, min}
use mathlib.Core.Path.{◌≡◌, refl, sym, ap, subst, ◌∙◌}
use mathlib.Core.Logic.{inl, inr}
use mathlib.Core.Bool.{false}
use mathlib.Core.List.{List, [], ◌∷◌}
use native.Mathlib.Omega.{arith}
use borrow.Author.Tests.{ne_eqb}
use lib.Dec.{eqb}
use lib.ListN.{length}
use Rattle.transform.proofs.control_flow.Choice.{cond-keeps}
use Rattle.transform.specs.matrix4x4.Rows.{Rows}
use Rattle.bounds3.specs.declared.Bounds3f.{Bounds3f}
use Rattle.transform.specs.declared.BoundsAnswer.{BoundsAnswer}
use Rattle.transform.specs.declared.BoundsAnswer.TheVariants.{Refused}
use Rattle.transform.specs.Answer.{BoundsAnswer-refusal, BoundsAnswer-bounds}
use Rattle.transform.proofs.Answer.{one-of-wider}
use Rattle.bounds_query.specs.Query.{max_depth, cover_refusal}
use Rattle.bounds_query.specs.Zeros.{BoundsAnswer-positive_zeros}
use Rattle.motion_piece.specs.motion_cover.Answer.{BoundsAnswer-Numbered}
use Rattle.motion_piece.proofs.motion_cover.Contains.{cover-depth}
use Rattle.chain_rows.specs.cover_depth.Finer.{Within}
use Rattle.chain_rows.specs.motion_chain.Chain.{Chain}
use Rattle.chain_rows.specs.Kept.{Chain-to_rows, Moves-chain}
use Rattle.chain_rows.proofs.Kept.{chain-inverse, kept-chain, not-empty, kept-point}
use Rattle.window_times.specs.declared.Window.{Window}
use Rattle.window_times.specs.Window.{Window-refusal}
use Rattle.chain_window.specs.Cover.{Chain-enclose_window, Chain-window_cover}
use Rattle.chain_window.proofs.Contains.{window-contains}
use Rattle.chain_window.proofs.Numbers.{window-numbered}
use Rattle.chain_window.proofs.Finer.{window-finer}
use Rattle.window_cover.specs.Kept.{Moves-window_cover, KeptWindowContainsMotion, KeptWindowFiner}

pub kept-window : (rows : List Rows) (c : Chain) (b : Bounds3f) (depth : ℕ) (w : Window)
    → rows ≡ Chain-to_rows c → Moves-window_cover rows b depth w ≡ Chain-window_cover c b depth w
unfolding Moves-window_cover
kept-window rows c b depth w e = rw (e, not-empty c, chain-inverse c)

pub kept-window-contains : (rows : List Rows) (b : Bounds3f) (depth : ℕ) (w : Window) → BoundsAnswer-refusal (Moves-window_cover rows b depth w) ≡ 0
    → KeptWindowContainsMotion rows b w (BoundsAnswer-bounds (Moves-window_cover rows b depth w))
kept-window-contains rows b depth w none c time p h t inside =
    let same = kept-window rows c b depth w h.same in
    rw (kept-point rows c time p h.same, kept-chain rows c h.same, same)
    (window-contains c b depth w time p h.built (ap BoundsAnswer-refusal (sym same) ∙ none) t inside)

pub kept-window-finer : (rows : List Rows) (b : Bounds3f) (depth : ℕ) (w : Window) → BoundsAnswer-refusal (Moves-window_cover rows b depth w) ≡ 0
    → KeptWindowFiner rows b depth w (BoundsAnswer-bounds (Moves-window_cover rows b depth w))
kept-window-finer rows b depth w none c finer h l most =
    let n = finer - depth in
    let same : depth + n ≡ finer = omega (arith, l) in
    let own = kept-window rows c b depth w h.same in
    let deeper : Within (Chain-window_cover c b (depth + n) w) (BoundsAnswer-bounds (Chain-window_cover c b depth w)) =
    window-finer c b w depth n h.built (omega (arith, same, most)) (ap BoundsAnswer-refusal (sym own) ∙ none) in
    rw (own, kept-window rows c b finer w h.same)
    (subst (λ (d : ℕ). Within (Chain-window_cover c b d w) (BoundsAnswer-bounds (Chain-window_cover c b depth w))) same deeper)

-- A window's numbers, and 12 where there are no moves.
pub kept-window-numbered : (rows : List Rows) (b : Bounds3f) (depth : ℕ) (w : Window)
    → BoundsAnswer-Numbered (0 ∷ 5 ∷ 6 ∷ 7 ∷ 8 ∷ 10 ∷ 12 ∷ 21 ∷ []) (Moves-window_cover rows b depth w)
unfolding Moves-window_cover
kept-window-numbered rows b depth w =
    let own = window-numbered (Moves-chain rows) b depth w in
    cond-keeps (BoundsAnswer-Numbered (0 ∷ 5 ∷ 6 ∷ 7 ∷ 8 ∷ 10 ∷ 12 ∷ 21 ∷ []))
    (eqb (length rows) 0) (Refused 12) (Chain-window_cover (Moves-chain rows) b depth w)
    (record { number = inr (inr (inr (inr (inr (inr (inl refl)))))); none = λ e. absurd (omega (arith, e)) })
    (record { number = one-of-wider _ (0 ∷ 5 ∷ 6 ∷ 7 ∷ 8 ∷ 10 ∷ 21 ∷ []) (0 ∷ 5 ∷ 6 ∷ 7 ∷ 8 ∷ 10 ∷ 12 ∷ 21 ∷ []) tt own.number; none = own.none })

pub window-clauses : (rows : List Rows) (b : Bounds3f) (depth : ℕ) (w : Window) {r : BoundsAnswer} → r ≡ Moves-window_cover rows b depth w
    → (r ≡ Moves-window_cover rows b depth w) × (((c : Chain) → rows ≡ Chain-to_rows c → r ≡ Chain-window_cover c b depth w)
    × ((BoundsAnswer-refusal r ≡ 0 → KeptWindowContainsMotion rows b w (BoundsAnswer-bounds r))
    × (BoundsAnswer-refusal r ≡ 0 → KeptWindowFiner rows b depth w (BoundsAnswer-bounds r))))
window-clauses rows b depth w e = (e, (λ c k. e ∙ kept-window rows c b depth w k, rw e (kept-window-contains rows b depth w, kept-window-finer rows b depth w)))

-- A depth that is not refused is not held.
pub held-depth : (b : Bounds3f) (depth : ℕ) → cover_refusal b depth ≡ 0 → min depth max_depth ≡ depth
held-depth b depth e = let h = cover-depth b depth e in omega (arith, h)

-- ---- the query's returns
module _ (rows : List Rows) (b : Bounds3f) (depth : ℕ) (w : Window) (some : length rows ≡ 0 → ⊥) where
  pub ticks-refused : {n : ℕ} → n ≡ Window-refusal w → (n ≡ 0 → ⊥) → Refused n ≡ Moves-window_cover rows b depth w
  unfolding Moves-window_cover Chain-window_cover
  ticks-refused {n} e h =
      let z : eqb (Window-refusal w) 0 ≡ false = ne_eqb (Window-refusal w) 0 (λ k. h (e ∙ k)) in
      rw (ne_eqb (length rows) 0 some, e, z, z)

  pub arguments-refused : {n : ℕ} → Window-refusal w ≡ 0 → n ≡ cover_refusal b depth → (n ≡ 0 → ⊥) → Refused n ≡ Moves-window_cover rows b depth w
  unfolding Moves-window_cover Chain-window_cover
  arguments-refused {n} k e h = rw (ne_eqb (length rows) 0 some, k, e, ne_eqb (cover_refusal b depth) 0 (λ j. h (e ∙ j)))

  pub window-worked : {r u : BoundsAnswer} → Window-refusal w ≡ 0 → cover_refusal b depth ≡ 0
      → u ≡ Chain-enclose_window (Moves-chain rows) b depth w → r ≡ BoundsAnswer-positive_zeros u → r ≡ Moves-window_cover rows b depth w
  unfolding Moves-window_cover Chain-window_cover
  window-worked k e h z = rw (ne_eqb (length rows) 0 some, k, e, ← h) z
