-- What an accepted list of windows says: each window's covers are accepted, and where they meet its place is listed (`window-listed`).
use Prim.Native.Nat.{ℕ, zero, suc, ◌+◌, ◌<◌}
use mathlib.Core.Logic.{inl}
use mathlib.Core.Path.{◌≡◌, refl, sym, subst, ap, ◌∙◌}
use mathlib.Core.Bool.{Bool, true, false, cond}
use mathlib.Core.List.{List, [], ◌∷◌}
use native.Mathlib.Omega.{arith}
use borrow.Author.Tests.{eqb-true}
use lib.Dec.{eqb}
use lib.ListN.{length}
use lib.Ieee.{Float}
use Rattle.bounds_meeting.proofs.refusal.First.{first-zero}
use Rattle.bounds_meeting.specs.refusal.First.{first_refusal}
use Rattle.bounds_meeting.specs.transform.declared.BoundsAnswer.{BoundsAnswer}
use Rattle.bounds_meeting.specs.transform.Answer.{OneOf, BoundsAnswer-refusal, BoundsAnswer-bounds}
use Rattle.bounds_meeting.proofs.transform.Answer.{one-of-cond}
use Rattle.bounds_meeting.specs.bounds_overlap.Meets.{Bounds3f-meets}
use Rattle.bounds_meeting.specs.Meeting.{Meeting-of}
use Rattle.chain_window.specs.window_times.declared.Window.{Window}
use Rattle.window_meetings.specs.Windows.{windows_of, WindowsAnswer, listed, refused, WindowsAnswer-windows, WindowsAnswer-cons, windows_from}
use Rattle.window_meetings.specs.Theorem.{tick_window}

-- ---- answers
pub listed_same : {xs ys : List ℕ} → listed xs ≡ listed ys → xs ≡ ys
listed_same e = ap WindowsAnswer-windows e

refused-listed : {n : ℕ} {ks : List ℕ} → refused n ≡ listed ks → ⊥
refused-listed e = subst Refusal e tt
  where
    Refusal : WindowsAnswer → Type 0
    Refusal (listed ks) = ⊥
    Refusal (refused n) = Unit {0}

pub cons-listed : (m : Bool) (k : ℕ) (rest : List ℕ) → WindowsAnswer-cons m k (listed rest) ≡ listed (cond m (k ∷ rest) rest)
unfolding WindowsAnswer-cons
cons-listed m k rest = refl

cons-refused : (m : Bool) (k n : ℕ) → WindowsAnswer-cons m k (refused n) ≡ refused n
unfolding WindowsAnswer-cons
cons-refused m k n = refl

-- ---- one window before the others
pub record Taken (cover cover' : Window → BoundsAnswer) (k : ℕ) (w : Window) (ws : List Window) (ks : List ℕ) : Type 0 where
  pub accepted : BoundsAnswer-refusal (cover w) ≡ 0
  pub accepted' : BoundsAnswer-refusal (cover' w) ≡ 0
  pub rest : List ℕ
  pub after : windows_from cover cover' (suc k) ws ≡ listed rest
  pub whole : ks ≡ cond (Bounds3f-meets (BoundsAnswer-bounds (cover w)) (BoundsAnswer-bounds (cover' w))) (k ∷ rest) rest

module _ (cover cover' : Window → BoundsAnswer) where
  pub first_taken : (k : ℕ) (w : Window) (ws : List Window) (ks : List ℕ) → windows_from cover cover' k (w ∷ ws) ≡ listed ks → Taken cover cover' k w ws ks
  unfolding windows_from Meeting-of
  first_taken k w ws ks = go (eqb n 0) (eqb-true n 0) (windows_from cover cover' (suc k) ws) refl
    where
      n : ℕ
      n = first_refusal (BoundsAnswer-refusal (cover w)) (BoundsAnswer-refusal (cover' w))

      m : Bool
      m = Bounds3f-meets (BoundsAnswer-bounds (cover w)) (BoundsAnswer-bounds (cover' w))

      go : (t : Bool) → (t ≡ true → n ≡ 0) → (r : WindowsAnswer) → windows_from cover cover' (suc k) ws ≡ r
          → cond t (WindowsAnswer-cons (cond t m false) k r) (refused n) ≡ listed ks
          → Taken cover cover' k w ws ks
      go true f (listed rest) e h =
          let (a, a') = first-zero (BoundsAnswer-refusal (cover w)) (BoundsAnswer-refusal (cover' w)) (f refl) in
          record { accepted = a; accepted' = a'; rest = rest; after = e; whole = listed_same (sym h ∙ cons-listed m k rest) }
      go true f (refused x) e h = absurd (refused-listed (sym (cons-refused m k x) ∙ h))
      go false f r e h = absurd (refused-listed h)

  -- ---- any window
  pub record Listing (w : Window) (k : ℕ) (ks : List ℕ) : Type 0 where
    pub accepted : BoundsAnswer-refusal (cover w) ≡ 0
    pub accepted' : BoundsAnswer-refusal (cover' w) ≡ 0
    pub meeting : Bounds3f-meets (BoundsAnswer-bounds (cover w)) (BoundsAnswer-bounds (cover' w)) ≡ true → OneOf k ks

  pub window-listed : (j i : ℕ) (ticks : List Float) (ks : List ℕ) → i + 1 < length ticks → windows_from cover cover' j (windows_of ticks) ≡ listed ks
      → Listing (tick_window ticks i) (j + i) ks
  unfolding windows_of
  window-listed j i [] ks h e = absurd (omega (arith, h))
  window-listed j i (t ∷ []) ks h e = absurd (omega (arith, h))
  window-listed j zero (t ∷ u ∷ ticks) ks h e =
      let a = first_taken j (record { earlier = t; later = u }) (windows_of (u ∷ ticks)) ks e in
      let same : j + 0 ≡ j = omega arith in
      record { accepted = a.accepted; accepted' = a.accepted'; meeting = λ m. subst (OneOf (j + 0)) (sym a.whole) (rw m (inl same)) }
  window-listed j (suc i) (t ∷ u ∷ ticks) ks h e =
      let a = first_taken j (record { earlier = t; later = u }) (windows_of (u ∷ ticks)) ks e in
      let b = window-listed (suc j) i (u ∷ ticks) a.rest (omega (arith, h)) a.after in
      let same : suc j + i ≡ j + suc i = omega arith in
      record {
        accepted = b.accepted;
        accepted' = b.accepted';
        meeting = λ m. subst (OneOf (j + suc i)) (sym a.whole) (one-of-cond
            (Bounds3f-meets (BoundsAnswer-bounds (cover (record { earlier = t; later = u })))
            (BoundsAnswer-bounds (cover' (record { earlier = t; later = u })))) (j + suc i) j a.rest
            (subst (λ (k : ℕ). OneOf k a.rest) same (b.meeting m)));
      }
