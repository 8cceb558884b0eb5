-- The query of two kept chains as the code makes it, and its clauses (`windows-clauses`). Where the rows hold built chains it is the chains'
-- own (`kept-windows`), so that no points coincide in a window left off the list (`kept-apart`), and no greater depth adds one (`kept-finer`).
use Prim.Native.Nat.{ℕ, ◌+◌, ◌-◌, ◌≤◌}
use mathlib.Core.Logic.{inl, inr}
use mathlib.Core.Path.{◌≡◌, refl, sym, ap, subst, ◌∙◌}
use mathlib.Core.Bool.{Bool, true, false, ◌||◌, cond}
use mathlib.Core.List.{List, [], ◌∷◌}
use native.Mathlib.Omega.{arith}
use borrow.Author.Tests.{eqb-false, ltb-false, eq-eqb, ne_eqb}
use lib.Dec.{eqb, ltb}
use lib.ListN.{length, take, replicate}
use lib.Seq.{take-append_seam}
use lib.Ieee.{Float}
use Rattle.bounds_query.specs.matrix4x4.Rows.{Rows}
use Rattle.bounds3.specs.declared.Point3f.{Point3f}
use Rattle.bounds3.specs.declared.Bounds3f.{Bounds3f}
use Rattle.bounds3.specs.Inside.{Inside}
use Rattle.bounds_query.specs.transform.declared.BoundsAnswer.{BoundsAnswer}
use Rattle.bounds_query.specs.transform.Answer.{OneOf, PointAnswer-refusal}
use Rattle.bounds_query.proofs.transform.Answer.{one-of-wider}
use Rattle.bounds_query.specs.Query.{Bounds3f-refusal, max_depth, cover_refusal}
use Rattle.tick_list.specs.Ticks.{min_ticks, max_ticks, Ticks-rise, Ticks-refusal}
use Rattle.window_meetings.specs.motion_chain.Chain.{Chain, first_number}
use Rattle.window_meetings.proofs.motion_chain.Built.{first-none, first-only}
use Rattle.window_cover.specs.chain_rows.Kept.{Chain-to_rows, Moves-chain}
use Rattle.window_cover.proofs.chain_rows.Kept.{chain-inverse, kept-chain, kept-point}
use Rattle.window_times.specs.declared.Window.{Window}
use Rattle.window_meetings.specs.chain_window.Cover.{Chain-window_cover}
use Rattle.window_cover.specs.Kept.{Moves-window_cover}
use Rattle.window_meetings.specs.Windows.{windows_of, windows_refusal, WindowsAnswer, listed, refused, WindowsAnswer-refusal}
use Rattle.window_meetings.specs.Windows.{WindowsAnswer-windows, windows_from, Chain-windows, place_count, WindowsAnswer-left}
use Rattle.window_meetings.specs.Theorem.{reached, NoneAdded}
use Rattle.window_meetings.specs.Numbers.{WindowsAnswer-Numbered}
use Rattle.window_meetings.proofs.Numbers.{windows-numbered}
use Rattle.window_meetings.proofs.Apart.{windows-apart}
use Rattle.window_meetings.proofs.Finer.{windows-finer}
use Rattle.window_pairs.specs.declared.Found.{Found}
use Rattle.window_pairs.specs.means.Found.{Found-Is}
use Rattle.window_pairs.specs.Kept.{Moves-windows, WindowsAnswer-Is, KeptWindows, Moves-reached, Moves-Apart, KeptWindowsApart, KeptWindowsFiner}

-- ---- the numbers
module _ (b b' : Bounds3f) (d : ℕ) (ticks : List Float) where
  pub ticks-first : (Ticks-refusal ticks ≡ 0 → ⊥) → windows_refusal b b' d ticks ≡ Ticks-refusal ticks
  unfolding windows_refusal first_number
  ticks-first h = rw (ne_eqb (Ticks-refusal ticks) 0 h)

  pub box-first : Ticks-refusal ticks ≡ 0 → (Bounds3f-refusal b ≡ 0 → ⊥) → windows_refusal b b' d ticks ≡ Bounds3f-refusal b
  unfolding windows_refusal first_number
  box-first t h = rw (t, ne_eqb (Bounds3f-refusal b) 0 h)

  pub other_last : Ticks-refusal ticks ≡ 0 → Bounds3f-refusal b ≡ 0 → windows_refusal b b' d ticks ≡ cover_refusal b' d
  unfolding windows_refusal first_number cover_refusal
  other_last t h = rw (t, h, first-only (cond (ltb max_depth d) 8 0))

-- Ticks that are not refused are at most 64.
few-ticks : (ticks : List Float) → Ticks-refusal ticks ≡ 0 → length ticks ≤ max_ticks
unfolding Ticks-refusal
few-ticks ticks = go (ltb (length ticks) min_ticks) (ltb max_ticks (length ticks)) (ltb-false max_ticks (length ticks))
  where
    go : (s t : Bool) → (t ≡ false → length ticks ≤ max_ticks) → ◌≡◌ {A = ℕ} (cond (s || t) 21 (cond (Ticks-rise ticks) 0 21)) 0 → length ticks ≤ max_ticks
    go true t f e = absurd (eqb-false 21 0 refl e)
    go false true f e = absurd (eqb-false 21 0 refl e)
    go false false f e = f refl

pub accepted-ticks : (b b' : Bounds3f) (d : ℕ) (ticks : List Float) → windows_refusal b b' d ticks ≡ 0 → length ticks ≤ max_ticks
unfolding windows_refusal
accepted-ticks b b' d ticks e =
    few-ticks ticks (first-none (Ticks-refusal ticks) (Bounds3f-refusal b ∷ Bounds3f-refusal b' ∷ cond (ltb max_depth d) 8 0 ∷ []) e).0

-- ---- the answer
module _ (rows rows' : List Rows) (b b' : Bounds3f) (d : ℕ) (ticks : List Float) where
  pub none_first : length rows ≡ 0 → Moves-windows rows rows' b b' d ticks ≡ refused 12
  unfolding Moves-windows
  none_first e = rw (eq-eqb (length rows) 0 e)

  pub none-second : (length rows ≡ 0 → ⊥) → length rows' ≡ 0 → Moves-windows rows rows' b b' d ticks ≡ refused 12
  unfolding Moves-windows
  none-second h e = rw (ne_eqb (length rows) 0 h, eq-eqb (length rows') 0 e)

  module _ (some : length rows ≡ 0 → ⊥) (some' : length rows' ≡ 0 → ⊥) where
    pub arguments-refused : {n : ℕ} → n ≡ windows_refusal b b' d ticks → (n ≡ 0 → ⊥) → Moves-windows rows rows' b b' d ticks ≡ refused n
    unfolding Moves-windows Chain-windows
    arguments-refused e h = rw (ne_eqb (length rows) 0 some, ne_eqb (length rows') 0 some', ← e, ne_eqb _ 0 h)

    pub windows-worked : windows_refusal b b' d ticks ≡ 0
        → Moves-windows rows rows' b b' d ticks ≡ windows_from (Moves-window_cover rows b d) (Moves-window_cover rows' b' d) 0 (windows_of ticks)
    unfolding Moves-windows Chain-windows
    windows-worked e =
        let own : Window → BoundsAnswer = Chain-window_cover (Moves-chain rows) b d in
        let own' : Window → BoundsAnswer = Chain-window_cover (Moves-chain rows') b' d in
        let same : own ≡ Moves-window_cover rows b d = λ i w. covered rows b some w i in
        let same' : own' ≡ Moves-window_cover rows' b' d = λ i w. covered rows' b' some' w i in
        rw (ne_eqb (length rows) 0 some, ne_eqb (length rows') 0 some', e) (λ i. windows_from (same i) (same' i) 0 (windows_of ticks))
      where
        covered : (l : List Rows) (x : Bounds3f) → (length l ≡ 0 → ⊥) → (w : Window) → Chain-window_cover (Moves-chain l) x d w ≡ Moves-window_cover l x d w
        covered l x h w = unfold Moves-window_cover in rw (ne_eqb (length l) 0 h)

-- ---- what was found
pub found-refused : (a : WindowsAnswer) (f : Found) → Found-Is a f → (f.refusal ≡ 0 → ⊥) → a ≡ refused f.refusal
found-refused (listed ks) f h z = absurd (z h.refusal)
found-refused (refused n) f h z = ap refused (sym h.0)

pub record Listed (a : WindowsAnswer) (f : Found) (old : List ℕ) : Type 0 where
  pub accepted : WindowsAnswer-refusal a ≡ 0
  pub count : f.count ≡ length (WindowsAnswer-windows a)
  pub places : f.places ≡ WindowsAnswer-left a old

pub found-listed : (a : WindowsAnswer) (f : Found) (old : List ℕ) → Found-Is a f → f.refusal ≡ 0 → Listed a f old
unfolding WindowsAnswer-left
found-listed (listed ks) f old h z = record { accepted = refl; count = h.count; places = h.places }
found-listed (refused n) f old h z = absurd (h.1 (sym h.0 ∙ z))

-- ---- built chains
kept-windows : (rows rows' : List Rows) (c c' : Chain) (b b' : Bounds3f) (d : ℕ) (ticks : List Float) → rows ≡ Chain-to_rows c → rows' ≡ Chain-to_rows c'
    → Moves-windows rows rows' b b' d ticks ≡ Chain-windows c c' b b' d ticks
unfolding Moves-windows
kept-windows rows rows' c c' b b' d ticks e e' = rw (e, e', not-empty c, not-empty c', chain-inverse c, chain-inverse c')
  where
    not-empty : (x : Chain) → eqb (length (Chain-to_rows x)) 0 ≡ false
    not-empty x = ne_eqb (length (Chain-to_rows x)) 0 (λ k. absurd (omega (arith, k)))

reached-kept : (rows : List Rows) (c : Chain) (time : Float) (p : Point3f) → rows ≡ Chain-to_rows c → Moves-reached rows time p ≡ reached c time p
reached-kept rows c time p e = rw (kept-point rows c time p e, kept-chain rows c e)

kept-apart : (rows rows' : List Rows) (b b' : Bounds3f) (d : ℕ) (ticks : List Float) → WindowsAnswer-refusal (Moves-windows rows rows' b b' d ticks) ≡ 0
    → KeptWindowsApart rows rows' b b' ticks (WindowsAnswer-windows (Moves-windows rows rows' b b' d ticks))
kept-apart rows rows' b b' d ticks none c c' k time p p' h h' l off t i i' =
    let same = kept-windows rows rows' c c' b b' d ticks h.same h'.same in
    let a = windows-apart c c' b b' d ticks k time p p' h.built h'.built (ap WindowsAnswer-refusal (sym same) ∙ none) l
    (λ o. off (subst (OneOf k) (ap WindowsAnswer-windows (sym same)) o)) t i i' in
    record {
      answered = ap PointAnswer-refusal (kept-point rows c time p h.same) ∙ a.answered;
      answered' = ap PointAnswer-refusal (kept-point rows' c' time p' h'.same) ∙ a.answered';
      apart = λ q j j'.
          a.apart q (subst (λ (x : Bounds3f). Inside x q) (reached-kept rows c time p h.same) j)
          (subst (λ (x : Bounds3f). Inside x q) (reached-kept rows' c' time p' h'.same) j');
    }

kept-finer : (rows rows' : List Rows) (b b' : Bounds3f) (d : ℕ) (ticks : List Float) → WindowsAnswer-refusal (Moves-windows rows rows' b b' d ticks) ≡ 0
    → KeptWindowsFiner rows rows' b b' d ticks (WindowsAnswer-windows (Moves-windows rows rows' b b' d ticks))
kept-finer rows rows' b b' d ticks none c c' finer h h' l most =
    let n = finer - d in
    let deeper : d + n ≡ finer = omega (arith, l) in
    let own = kept-windows rows rows' c c' b b' d ticks h.same h'.same in
    let ks = WindowsAnswer-windows (Chain-windows c c' b b' d ticks) in
    let fine : NoneAdded ks (Chain-windows c c' b b' (d + n) ticks) =
    windows-finer c c' b b' ticks d n h.built h'.built (omega (arith, deeper, most)) (ap WindowsAnswer-refusal (sym own) ∙ none) in
    rw (own, kept-windows rows rows' c c' b b' finer ticks h.same h'.same) (subst (λ (e : ℕ). NoneAdded ks (Chain-windows c c' b b' e ticks)) deeper fine)

-- The numbers of a list of windows, and 12 where a chain has no moves.
pub kept-windows-numbered : (rows rows' : List Rows) (b b' : Bounds3f) (d : ℕ) (ticks : List Float)
    → WindowsAnswer-Numbered (0 ∷ 5 ∷ 6 ∷ 7 ∷ 8 ∷ 10 ∷ 12 ∷ 21 ∷ []) (Moves-windows rows rows' b b' d ticks)
unfolding Moves-windows
kept-windows-numbered rows rows' b b' d ticks = go (eqb (length rows) 0 || eqb (length rows') 0)
  where
    own : WindowsAnswer
    own = Chain-windows (Moves-chain rows) (Moves-chain rows') b b' d ticks

    go : (t : Bool) → WindowsAnswer-Numbered (0 ∷ 5 ∷ 6 ∷ 7 ∷ 8 ∷ 10 ∷ 12 ∷ 21 ∷ []) (cond t (refused 12) own)
    go true = record { number = inr (inr (inr (inr (inr (inr (inl refl)))))); none = λ e. absurd (omega (arith, e)) }
    go false =
        let h = windows-numbered (Moves-chain rows) (Moves-chain rows') b b' d ticks in
        record { number = one-of-wider _ (0 ∷ 5 ∷ 6 ∷ 7 ∷ 8 ∷ 10 ∷ 21 ∷ []) (0 ∷ 5 ∷ 6 ∷ 7 ∷ 8 ∷ 10 ∷ 12 ∷ 21 ∷ []) tt h.number; none = h.none }

-- ---- the clauses, from the answer
-- The windows are the first of the places.
front : (a : WindowsAnswer) (old : List ℕ) → take (length (WindowsAnswer-windows a)) (WindowsAnswer-left a old) ≡ WindowsAnswer-windows a
unfolding WindowsAnswer-left
front (listed ks) old = take-append_seam ks (replicate (place_count - length ks) 0)
front (refused n) old = refl

pub windows-clauses : (rows rows' : List Rows) (b b' : Bounds3f) (d : ℕ) (ticks : List Float) (a : WindowsAnswer) (old new : List ℕ) {n k : ℕ}
    → Moves-windows rows rows' b b' d ticks ≡ a → n ≡ WindowsAnswer-refusal a → k ≡ length (WindowsAnswer-windows a) → new ≡ WindowsAnswer-left a old
    → (n ≡ WindowsAnswer-refusal (Moves-windows rows rows' b b' d ticks))
    × ((k ≡ length (WindowsAnswer-windows (Moves-windows rows rows' b b' d ticks)))
    × ((new ≡ WindowsAnswer-left (Moves-windows rows rows' b b' d ticks) old)
    × (KeptWindows rows rows' b b' d ticks n k old new
    × ((n ≡ 0 → KeptWindowsApart rows rows' b b' ticks (take k new))
    × (n ≡ 0 → KeptWindowsFiner rows rows' b b' d ticks (take k new))))))
windows-clauses rows rows' b b' d ticks a old new {n} {k} e en ek el =
    let own = Moves-windows rows rows' b b' d ticks in
    let places : take k new ≡ WindowsAnswer-windows a = rw (ek, el) (front a old) in
    let same = ap WindowsAnswer-windows e ∙ sym places in
    let none : n ≡ 0 → WindowsAnswer-refusal own ≡ 0 = λ z. ap WindowsAnswer-refusal e ∙ sym en ∙ z in (
      en ∙ ap WindowsAnswer-refusal (sym e),
      (
        ek ∙ ap (λ (x : WindowsAnswer). length (WindowsAnswer-windows x)) (sym e),
        (
          rw e el,
          (
            λ c c' h h'. answered (sym e ∙ kept-windows rows rows' c c' b b' d ticks h h'),
            (
              λ z. subst (KeptWindowsApart rows rows' b b' ticks) same (kept-apart rows rows' b b' d ticks (none z)),
              λ z. subst (KeptWindowsFiner rows rows' b b' d ticks) same (kept-finer rows rows' b b' d ticks (none z)),
            ),
          ),
        ),
      ),
    )
  where
    answered : {x : WindowsAnswer} → a ≡ x → WindowsAnswer-Is x n k old new
    answered s = record {
      refusal = en ∙ ap WindowsAnswer-refusal s;
      count = ek ∙ ap (λ (y : WindowsAnswer). length (WindowsAnswer-windows y)) s;
      left = el ∙ ap (λ (y : WindowsAnswer). WindowsAnswer-left y old) s;
    }
