-- A window's cover gives a cover's numbers and 21 alone, and one whose number is 0 is a box: `window-numbered`.
use Prim.Native.Nat.{ℕ}
use mathlib.Core.Logic.{inl, inr}
use mathlib.Core.Path.{◌≡◌, refl}
use mathlib.Core.Bool.{Bool, true, false, cond}
use mathlib.Core.List.{List, [], ◌∷◌}
use borrow.Author.Tests.{eqb-false}
use lib.Dec.{eqb}
use lib.Ieee.{lt}
use Rattle.dt_share.specs.refusal.First.{first_refusal}
use Rattle.dt_share.proofs.refusal.First.{first-keeps}
use Rattle.motion_chain.specs.bounds3.declared.Bounds3f.{Bounds3f}
use Rattle.motion_chain.specs.bounds3.Bounds3f.{Bounds3f-default}
use Rattle.motion_chain.specs.transform.declared.BoundsAnswer.{BoundsAnswer}
use Rattle.motion_chain.specs.transform.declared.BoundsAnswer.TheVariants.{Bounds, Refused}
use Rattle.motion_chain.specs.transform.Answer.{OneOf}
use Rattle.motion_chain.proofs.transform.Answer.{one-of-wider}
use Rattle.motion_chain.specs.bounds_query.Query.{cover_refusal}
use Rattle.motion_chain.specs.bounds_query.Zeros.{BoundsAnswer-positive_zeros}
use Rattle.motion_chain.proofs.bounds_query.Numbers.{arguments-keeps}
use Rattle.motion_chain.specs.motion_cover.Answer.{BoundsAnswer-Numbered}
use Rattle.motion_chain.proofs.bounds_answers.UnionAll.{union-all-numbered}
use Rattle.motion_chain.specs.Chain.{Chain}
use Rattle.window_times.specs.declared.Window.{Window}
use Rattle.window_times.specs.Window.{Window-refusal}
use Rattle.chain_window.specs.Cover.{window_boxes, Chain-enclose_window, Chain-window_cover}
use Rattle.chain_window.proofs.Members.{each_member}
use Rattle.chain_window.proofs.Boxes.{boxes-numbered}

abbrev numbers : List ℕ
numbers = 0 ∷ 5 ∷ 6 ∷ 7 ∷ 8 ∷ 10 ∷ 21 ∷ []

arguments-number : (b : Bounds3f) (d : ℕ) (w : Window) → OneOf (first_refusal (Window-refusal w) (cover_refusal b d)) numbers
arguments-number b d w =
    let P : ℕ → Type 0 = λ n. OneOf n numbers in
    first-keeps P (Window-refusal w) (cover_refusal b d) (go (lt w.earlier w.later))
    (arguments-keeps P b d (inl refl) (inr (inr (inl refl))) (inr (inr (inr (inl refl)))) (inr (inr (inr (inr (inl refl))))))
  where
    go : (s : Bool) → OneOf (cond s 0 21) numbers
    go true = inl refl
    go false = inr (inr (inr (inr (inr (inr (inl refl))))))

zeros-numbered : {ns : List ℕ} (r : BoundsAnswer) → BoundsAnswer-Numbered ns r → BoundsAnswer-Numbered ns (BoundsAnswer-positive_zeros r)
unfolding BoundsAnswer-positive_zeros
zeros-numbered (Bounds b) h = record { number = h.number; none = λ _. refl }
zeros-numbered (Refused n) h = h

pub window-numbered : (c : Chain) (b : Bounds3f) (d : ℕ) (w : Window) → BoundsAnswer-Numbered (0 ∷ 5 ∷ 6 ∷ 7 ∷ 8 ∷ 10 ∷ 21 ∷ []) (Chain-window_cover c b d w)
unfolding Chain-window_cover
window-numbered c b d w = go (eqb n 0) (eqb-false n 0)
  where
    n : ℕ
    n = first_refusal (Window-refusal w) (cover_refusal b d)

    union : BoundsAnswer-Numbered (0 ∷ 5 ∷ 10 ∷ []) (Chain-enclose_window c b d w)
    union =
        unfold Chain-enclose_window in union-all-numbered (Bounds Bounds3f-default) (window_boxes c b d w) (record { number = inl refl; none = λ _. refl })
        (each_member (window_boxes c b d w) (boxes-numbered c b d w))

    work : BoundsAnswer-Numbered (0 ∷ 5 ∷ 10 ∷ []) (BoundsAnswer-positive_zeros (Chain-enclose_window c b d w))
    work = zeros-numbered (Chain-enclose_window c b d w) union

    go : (t : Bool) → (t ≡ false → n ≡ 0 → ⊥) → BoundsAnswer-Numbered numbers (cond t (BoundsAnswer-positive_zeros (Chain-enclose_window c b d w)) (Refused n))
    go true f = record { number = one-of-wider _ (0 ∷ 5 ∷ 10 ∷ []) numbers tt work.number; none = work.none }
    go false f = record { number = arguments-number b d w; none = λ e. absurd (f refl e) }
