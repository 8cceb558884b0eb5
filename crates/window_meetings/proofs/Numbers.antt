-- A list of windows gives the numbers of a window's cover alone, and one whose number is 0 is a list: `windows-numbered`.
use Prim.Native.Nat.{ℕ, suc}
use mathlib.Core.Logic.{inl, inr}
use mathlib.Core.Path.{◌≡◌, refl}
use mathlib.Core.Bool.{Bool, true, false, ◌||◌, cond}
use mathlib.Core.List.{List, [], ◌∷◌}
use borrow.Author.Tests.{eqb-false}
use lib.Dec.{eqb, ltb}
use lib.ListN.{length}
use lib.Ieee.{Float}
use Rattle.bounds_meeting.proofs.refusal.First.{first-keeps}
use Rattle.bounds_meeting.specs.refusal.First.{first_refusal}
use Rattle.bounds_meeting.specs.bounds3.declared.Bounds3f.{Bounds3f}
use Rattle.bounds_meeting.specs.transform.declared.BoundsAnswer.{BoundsAnswer}
use Rattle.bounds_meeting.specs.transform.Answer.{OneOf, BoundsAnswer-refusal, BoundsAnswer-bounds}
use Rattle.chain_window.specs.bounds_query.Query.{Bounds3f-refusal, max_depth}
use Rattle.chain_window.proofs.bounds_query.Numbers.{box-keeps}
use Rattle.bounds_meeting.specs.bounds_overlap.Meets.{Bounds3f-meets}
use Rattle.bounds_meeting.specs.Meeting.{Meeting-of}
use Rattle.chain_window.specs.motion_chain.Chain.{first_number, Chain}
use Rattle.tick_list.specs.Ticks.{min_ticks, max_ticks, Ticks-rise, Ticks-refusal}
use Rattle.chain_window.specs.window_times.declared.Window.{Window}
use Rattle.chain_window.specs.Cover.{Chain-window_cover}
use Rattle.chain_window.proofs.Numbers.{window-numbered}
use Rattle.window_meetings.specs.Windows.{windows_of, windows_refusal, WindowsAnswer, listed, refused, WindowsAnswer-cons, windows_from, Chain-windows}
use Rattle.window_meetings.specs.Numbers.{WindowsAnswer-Numbered}

abbrev numbers : List ℕ
numbers = 0 ∷ 5 ∷ 6 ∷ 7 ∷ 8 ∷ 10 ∷ 21 ∷ []

abbrev Number : ℕ → Type 0
Number n = OneOf n numbers

-- ---- the arguments
first-number : (n k : ℕ) → Number n → Number k → Number (first_refusal n k)
first-number n k i j = first-keeps Number n k i j

ticks-number : (ticks : List Float) → Number (Ticks-refusal ticks)
unfolding Ticks-refusal
ticks-number ticks = go (ltb (length ticks) min_ticks || ltb max_ticks (length ticks)) (Ticks-rise ticks)
  where
    go : (s t : Bool) → Number (cond s 21 (cond t 0 21))
    go true t = inr (inr (inr (inr (inr (inr (inl refl))))))
    go false true = inl refl
    go false false = inr (inr (inr (inr (inr (inr (inl refl))))))

box-number : (b : Bounds3f) → Number (Bounds3f-refusal b)
box-number b = box-keeps Number b (inl refl) (inr (inr (inl refl))) (inr (inr (inr (inl refl))))

depth-number : (d : ℕ) → Number (cond (ltb max_depth d) 8 0)
depth-number d = go (ltb max_depth d)
  where
    go : (l : Bool) → Number (cond l 8 0)
    go true = inr (inr (inr (inr (inl refl))))
    go false = inl refl

arguments-number : (b b' : Bounds3f) (d : ℕ) (ticks : List Float) → Number (windows_refusal b b' d ticks)
unfolding windows_refusal first_number
arguments-number b b' d ticks =
    first-number (Ticks-refusal ticks) _ (ticks-number ticks)
    (first-number (Bounds3f-refusal b) _ (box-number b)
    (first-number (Bounds3f-refusal b') _ (box-number b') (first-number (cond (ltb max_depth d) 8 0) 0 (depth-number d) (inl refl))))

-- ---- the work
module _ (cover cover' : Window → BoundsAnswer) (own : (w : Window) → Number (BoundsAnswer-refusal (cover w)))
    (own' : (w : Window) → Number (BoundsAnswer-refusal (cover' w))) where
  pub from-numbered : (k : ℕ) (ws : List Window) → WindowsAnswer-Numbered numbers (windows_from cover cover' k ws)
  unfolding windows_from Meeting-of
  from-numbered k [] = record { number = inl refl; none = λ _. refl }
  from-numbered k (w ∷ ws) = go (eqb n 0) (eqb-false n 0) (windows_from cover cover' (suc k) ws) (from-numbered (suc k) ws)
    where
      n : ℕ
      n = first_refusal (BoundsAnswer-refusal (cover w)) (BoundsAnswer-refusal (cover' w))

      m : Bool
      m = Bounds3f-meets (BoundsAnswer-bounds (cover w)) (BoundsAnswer-bounds (cover' w))

      go : (t : Bool) → (t ≡ false → n ≡ 0 → ⊥) → (r : WindowsAnswer) → WindowsAnswer-Numbered numbers r
          → WindowsAnswer-Numbered numbers (cond t (WindowsAnswer-cons (cond t m false) k r) (refused n))
      go true f (listed ks) h = unfold WindowsAnswer-cons in record { number = inl refl; none = λ _. refl }
      go true f (refused x) h = unfold WindowsAnswer-cons in h
      go false f r h =
          record { number = first-number (BoundsAnswer-refusal (cover w)) (BoundsAnswer-refusal (cover' w)) (own w) (own' w); none = λ e. absurd (f refl e) }

pub windows-numbered : (c c' : Chain) (b b' : Bounds3f) (d : ℕ) (ticks : List Float)
    → WindowsAnswer-Numbered (0 ∷ 5 ∷ 6 ∷ 7 ∷ 8 ∷ 10 ∷ 21 ∷ []) (Chain-windows c c' b b' d ticks)
unfolding Chain-windows
windows-numbered c c' b b' d ticks = go (eqb n 0) (eqb-false n 0)
  where
    n : ℕ
    n = windows_refusal b b' d ticks

    work : WindowsAnswer
    work = windows_from (Chain-window_cover c b d) (Chain-window_cover c' b' d) 0 (windows_of ticks)

    go : (t : Bool) → (t ≡ false → n ≡ 0 → ⊥) → WindowsAnswer-Numbered numbers (cond t work (refused n))
    go true f =
        from-numbered (Chain-window_cover c b d) (Chain-window_cover c' b' d)
        (λ w. (window-numbered c b d w).number) (λ w. (window-numbered c' b' d w).number) 0 (windows_of ticks)
    go false f = record { number = arguments-number b b' d ticks; none = λ e. absurd (f refl e) }
