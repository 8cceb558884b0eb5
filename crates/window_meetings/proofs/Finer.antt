-- No greater depth adds a window: `windows-finer`. Each window's cover is accepted at the greater depth and lies
-- in the one at the lesser (chain_window's `window-finer`), and smaller boxes that meet do so within larger ones.
use Prim.Native.Nat.{ℕ, suc, ◌+◌, ◌≤◌}
use mathlib.Core.Logic.{inl, inr}
use mathlib.Core.Path.{◌≡◌, refl, sym, ap, subst, ◌∙◌}
use mathlib.Core.Bool.{Bool, true, false, cond, true≢false}
use mathlib.Core.List.{List, [], ◌∷◌}
use borrow.Author.Tests.{le-ltb}
use lib.Dec.{ltb}
use lib.Ieee.{Float}
use lib.Ieee.Bits.{is_true}
use Rattle.bounds_meeting.specs.bounds3.declared.Bounds3f.{Bounds3f}
use Rattle.bounds_meeting.specs.transform.declared.BoundsAnswer.{BoundsAnswer}
use Rattle.bounds_meeting.specs.transform.Answer.{OneOf, BoundsAnswer-refusal, BoundsAnswer-bounds}
use Rattle.chain_window.specs.bounds_query.Query.{Bounds3f-refusal, max_depth}
use Rattle.bounds_meeting.specs.bounds_overlap.Meets.{Bounds3f-meets}
use Rattle.bounds_meeting.specs.Meeting.{Meeting-of}
use Rattle.chain_window.specs.cover_depth.Finer.{Within}
use Rattle.chain_window.specs.motion_chain.Chain.{first_number, Chain}
use Rattle.chain_window.proofs.motion_chain.Built.{first-none}
use Rattle.tick_list.specs.Ticks.{Ticks-refusal}
use Rattle.chain_window.specs.window_times.declared.Window.{Window}
use Rattle.chain_window.specs.Cover.{Chain-window_cover}
use Rattle.chain_window.proofs.Finer.{window-finer}
use Rattle.window_meetings.specs.Windows.{windows_of, windows_refusal, WindowsAnswer, listed, WindowsAnswer-refusal}
use Rattle.window_meetings.specs.Windows.{WindowsAnswer-windows, windows_from, Chain-windows}
use Rattle.window_meetings.specs.Theorem.{NoneAdded, WindowsFiner}
use Rattle.bounds_meeting.proofs.bounds_overlap.Wider.{meets-mono}
use Rattle.window_meetings.proofs.Listed.{cons-listed, first_taken}
use Rattle.window_meetings.proofs.Apart.{windows-accepted}

-- Accepted, with each window among those listed before.
record Fewer (ks : List ℕ) (r : WindowsAnswer) : Type 0 where
  places : List ℕ
  accepted : r ≡ listed places
  fewer : (k : ℕ) → OneOf k places → OneOf k ks

module _ (cover cover' fine fine' : Window → BoundsAnswer)
    (finer : (w : Window) → BoundsAnswer-refusal (cover w) ≡ 0 → Within (fine w) (BoundsAnswer-bounds (cover w)))
    (finer' : (w : Window) → BoundsAnswer-refusal (cover' w) ≡ 0 → Within (fine' w) (BoundsAnswer-bounds (cover' w))) where
  none-added : (k : ℕ) (ws : List Window) (ks : List ℕ) → windows_from cover cover' k ws ≡ listed ks → Fewer ks (windows_from fine fine' k ws)
  unfolding windows_from Meeting-of
  none-added k [] ks e = record { places = []; accepted = refl; fewer = λ j o. absurd o }
  none-added k (w ∷ ws) ks e =
      let a = first_taken cover cover' k w ws ks e in
      let u = finer w a.accepted in
      let u' = finer' w a.accepted' in
      let later = none-added (suc k) ws a.rest a.after in
      let met = Bounds3f-meets (BoundsAnswer-bounds (fine w)) (BoundsAnswer-bounds (fine' w)) in
      let met' = Bounds3f-meets (BoundsAnswer-bounds (cover w)) (BoundsAnswer-bounds (cover' w)) in
      let mono : met ≡ true → met' ≡ true = λ h. is_true met' (meets-mono u.subset u'.subset (rw h tt)) in
      record {
        places = cond met (k ∷ later.places) later.places;
        accepted = rw (u.accepted, u'.accepted, later.accepted) (cons-listed met k later.places);
        fewer = λ j o. subst (OneOf j) (sym a.whole) (kept j met met' mono later.places a.rest (later.fewer j) o);
      }
    where
      kept : (j : ℕ) (s t : Bool) → (s ≡ true → t ≡ true) → (xs ys : List ℕ)
          → (OneOf j xs → OneOf j ys) → OneOf j (cond s (k ∷ xs) xs) → OneOf j (cond t (k ∷ ys) ys)
      kept j true true h xs ys f (inl e) = inl e
      kept j true true h xs ys f (inr o) = inr (f o)
      kept j true false h xs ys f o = absurd (true≢false (sym (h refl)))
      kept j false true h xs ys f o = inr (f o)
      kept j false false h xs ys f o = f o

-- ---- the query
arguments-finer : (b b' : Bounds3f) (d e : ℕ) (ticks : List Float) → e ≤ max_depth → windows_refusal b b' d ticks ≡ 0 → windows_refusal b b' e ticks ≡ 0
unfolding windows_refusal first_number
arguments-finer b b' d e ticks l h =
    let (t, h1) = first-none (Ticks-refusal ticks) (Bounds3f-refusal b ∷ Bounds3f-refusal b' ∷ cond (ltb max_depth d) 8 0 ∷ []) h in
    let (p, h2) = first-none (Bounds3f-refusal b) (Bounds3f-refusal b' ∷ cond (ltb max_depth d) 8 0 ∷ []) h1 in
    let (q, h3) = first-none (Bounds3f-refusal b') (cond (ltb max_depth d) 8 0 ∷ []) h2 in
    rw (t, p, q, le-ltb max_depth e l)

pub windows-finer : (c c' : Chain) (b b' : Bounds3f) (ticks : List Float) → WindowsFiner c c' b b' ticks
windows-finer c c' b b' ticks d n built built' l e =
    let a = windows-accepted c c' b b' d ticks e in
    let f = none-added (Chain-window_cover c b d) (Chain-window_cover c' b' d) (Chain-window_cover c b (d + n)) (Chain-window_cover c' b' (d + n))
    (λ w h. window-finer c b w d n built l h) (λ w h. window-finer c' b' w d n built' l h) 0
    (windows_of ticks) (WindowsAnswer-windows (Chain-windows c c' b b' d ticks)) a.work in
    let same = work (arguments-finer b b' d (d + n) ticks l a.arguments) ∙ f.accepted in
    record {
      accepted = ap WindowsAnswer-refusal same;
      listed-before = λ k o. f.fewer k (subst (OneOf k) (ap WindowsAnswer-windows same) o);
    }
  where
    work : windows_refusal b b' (d + n) ticks ≡ 0
        → Chain-windows c c' b b' (d + n) ticks ≡ windows_from (Chain-window_cover c b (d + n)) (Chain-window_cover c' b' (d + n)) 0 (windows_of ticks)
    work h = unfold Chain-windows in rw h
