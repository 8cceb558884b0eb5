-- The list of windows as a loop finds it. The invariant, `Loop`: the windows found so far, with those that are left, are all of them:
-- `loop-first`, `loop-next`, `loop-refused`, `loop-last`.
use Prim.Native.Nat.{ℕ, zero, suc, ◌+◌, ◌-◌, ◌≤◌, ◌<◌}
use mathlib.Core.Path.{◌≡◌, refl, sym, ap, subst, ◌∙◌}
use mathlib.Core.Bool.{Bool, true, false, cond}
use mathlib.Core.List.{List, [], ◌∷◌, ◌++◌, append-nil, append_assoc}
use native.Mathlib.Omega.{arith}
use borrow.Author.Tests.{eq-eqb, ne_eqb}
use lib.ListN.{length, get_or, drop, set, replicate, length-append}
use lib.Ieee.{Float, nan}
use lib.Seq.{set-append_seam, append_snoc}
use Rattle.bounds_query.specs.transform.declared.BoundsAnswer.{BoundsAnswer}
use Rattle.bounds_meeting.specs.declared.Meeting.{Meeting}
use Rattle.bounds_meeting.specs.Meeting.{Meeting-of}
use Rattle.tick_list.specs.Ticks.{max_ticks}
use Rattle.window_times.specs.declared.Window.{Window}
use Rattle.window_meetings.specs.Windows.{windows_of, WindowsAnswer, listed, refused, WindowsAnswer-cons, windows_from, place_count}
use Rattle.window_pairs.specs.declared.Found.{Found}
use Rattle.window_pairs.specs.means.Found.{window_at, Found-none, Found-add, Found-Holds, Found-Is}

-- ---- the places
pub holds-none : Found-Holds [] (Found-none 0)
holds-none = record { places = refl; count = refl; refusal = refl }

add-places : (ks : List ℕ) (k : ℕ) → length ks < place_count
    → set (ks ++ replicate (place_count - length ks) 0) (length ks) k ≡ ks ++ (k ∷ []) ++ replicate (place_count - length (ks ++ (k ∷ []))) 0
add-places ks k h =
    let m = place_count - length ks - 1 in
    let e : place_count - length ks ≡ suc m = omega (arith, h) in
    let n = length-append ks (k ∷ []) in
    let f : place_count - length (ks ++ (k ∷ [])) ≡ m = omega (arith, n) in
    rw (e, f) (set-append_seam ks 0 (replicate m 0) k ∙ sym (append_snoc ks k (replicate m 0)))

pub holds-add : {ks : List ℕ} {f : Found} (meets : Bool) (k : ℕ) → Found-Holds ks f
    → length ks < place_count → Found-Holds (cond meets (ks ++ (k ∷ [])) ks) (Found-add f meets k)
unfolding Found-add
holds-add {ks} {f} true k h l =
    let n = length-append ks (k ∷ []) in
    let c = h.count in
    record {
      places = rw (h.places, h.count) (add-places ks k l);
      count = rw h.count (sym n);
      refusal = refl;
    }
holds-add false k h l = h

-- ---- answers after the windows found before
abbrev after : List ℕ → WindowsAnswer → WindowsAnswer
after ks (listed xs) = listed (ks ++ xs)
after ks (refused n) = refused n

after-nil : (a : WindowsAnswer) → after [] a ≡ a
after-nil (listed xs) = refl
after-nil (refused n) = refl

after-cons : (ks : List ℕ) (meets : Bool) (k : ℕ) (a : WindowsAnswer) → after ks (WindowsAnswer-cons meets k a) ≡ after (cond meets (ks ++ (k ∷ [])) ks) a
unfolding WindowsAnswer-cons
after-cons ks true k (listed xs) = ap listed (sym (append_assoc ks (k ∷ []) xs))
after-cons ks false k (listed xs) = refl
after-cons ks true k (refused n) = refl
after-cons ks false k (refused n) = refl

-- ---- windows from a place on
windows-at : (ticks : List Float) (i : ℕ) → suc i < length ticks
    → windows_of (drop i ticks) ≡ record { earlier = get_or ticks i nan; later = get_or ticks (suc i) nan } ∷ windows_of (drop (suc i) ticks)
unfolding windows_of
windows-at [] i h = absurd (omega (arith, h))
windows-at (t ∷ []) i h = absurd (omega (arith, h))
windows-at (t ∷ u ∷ ticks) zero h = refl
windows-at (t ∷ u ∷ ticks) (suc i) h = windows-at (u ∷ ticks) i (omega (arith, h))

windows-end : (ticks : List Float) (i : ℕ) → length ticks ≤ suc i → windows_of (drop i ticks) ≡ []
unfolding windows_of
windows-end [] zero h = refl
windows-end [] (suc i) h = refl
windows-end (t ∷ []) zero h = refl
windows-end (t ∷ []) (suc zero) h = refl
windows-end (t ∷ []) (suc (suc i)) h = refl
windows-end (t ∷ u ∷ ticks) zero h = absurd (omega (arith, h))
windows-end (t ∷ u ∷ ticks) (suc i) h = windows-end (u ∷ ticks) i (omega (arith, h))

-- ---- the loop
module _ (cover cover' : Window → BoundsAnswer) (ticks : List Float) where
  abbrev left : ℕ → WindowsAnswer
  left k = windows_from cover cover' k (windows_of (drop k ticks))

  abbrev all : WindowsAnswer
  all = windows_from cover cover' 0 (windows_of ticks)

  pub record Loop (i : ℕ) (f : Found) : Type 0 where
    pub found : List ℕ
    pub holds : Found-Holds found f
    pub few : length found < i
    pub same : after found (left (i - 1)) ≡ all

  pub loop-first : Loop 1 (Found-none 0)
  loop-first = record { found = []; holds = holds-none; few = omega arith; same = after-nil all }

  step : (i : ℕ) → 0 < i → i < length ticks → windows_of (drop (i - 1) ticks) ≡ window_at ticks i ∷ windows_of (drop i ticks)
  step zero p h = absurd (omega (arith, p))
  step (suc k) p h = let e : suc k - 1 ≡ k = omega arith in rw e (windows-at ticks k h)

  refused-step : (k : ℕ) (w : Window) (ws : List Window) (m : Meeting) → m ≡ Meeting-of (cover w) (cover' w)
      → (m.refusal ≡ 0 → ⊥) → windows_from cover cover' k (w ∷ ws) ≡ refused m.refusal
  unfolding windows_from
  refused-step k w ws m e h = rw (← e, ne_eqb m.refusal 0 h)

  taken_step : (k : ℕ) (w : Window) (ws : List Window) (m : Meeting) → m ≡ Meeting-of (cover w) (cover' w) → m.refusal ≡ 0
      → windows_from cover cover' k (w ∷ ws) ≡ WindowsAnswer-cons m.meets k (windows_from cover cover' (suc k) ws)
  unfolding windows_from
  taken_step k w ws m e h = rw (← e, eq-eqb m.refusal 0 h)

  module _ {i : ℕ} {f : Found} (l : Loop i f) where
    abbrev k : ℕ
    k = i - 1

    next : i < length ticks → windows_of (drop k ticks) ≡ window_at ticks i ∷ windows_of (drop i ticks)
    next h = let n = l.few in step i (omega (arith, n)) h

    pub loop-few : i < length ticks → length ticks ≤ max_ticks → f.count < place_count
    loop-few h t = let c = l.holds.count in let n = l.few in omega (arith, c, n, h, t)

    pub loop-next : {g : Found} (m : Meeting) → i < length ticks → length ticks ≤ max_ticks
        → m ≡ Meeting-of (cover (window_at ticks i)) (cover' (window_at ticks i)) → m.refusal ≡ 0
        → g ≡ Found-add f m.meets k → Loop (i + 1) g
    loop-next {g} m h t e z a =
        let n = l.few in
        let s : i + 1 - 1 ≡ i = omega arith in
        let q : suc k ≡ i = omega (arith, n) in
        let w = taken_step k (window_at ticks i) (windows_of (drop i ticks)) m e z ∙ ap (λ (j : ℕ). WindowsAnswer-cons m.meets k (windows_from cover cover' j (windows_of (drop i ticks)))) q in
        let old = ap (windows_from cover cover' k) (next h) ∙ w in
        record {
          found = cond m.meets (l.found ++ (k ∷ [])) l.found;
          holds = rw a (holds-add m.meets k l.holds (omega (arith, n, h, t)));
          few = grown l.found m.meets n;
          same = rw s (sym (after-cons l.found m.meets k (left i)) ∙ sym (ap (after l.found) old) ∙ l.same);
        }
      where
        grown : (ks : List ℕ) (b : Bool) → length ks < i → length (cond b (ks ++ (k ∷ [])) ks) < i + 1
        grown ks true h = let e = length-append ks (k ∷ []) in omega (arith, e, h)
        grown ks false h = omega (arith, h)

    pub loop-refused : {g : Found} (m : Meeting) → i < length ticks
        → m ≡ Meeting-of (cover (window_at ticks i)) (cover' (window_at ticks i)) → (m.refusal ≡ 0 → ⊥)
        → g ≡ Found-none m.refusal → Found-Is all g
    loop-refused {g} m h e z a =
        let w = refused-step k (window_at ticks i) (windows_of (drop i ticks)) m e z in
        let old = ap (after l.found) (ap (windows_from cover cover' k) (next h) ∙ w) in
        subst (λ (x : WindowsAnswer). Found-Is x g) (sym old ∙ l.same) (ap (λ (x : Found). x.refusal) a, z)

    pub loop-last : length ticks ≤ i → Found-Is all f
    unfolding windows_from
    loop-last h =
        let n = l.few in
        let none = ap (windows_from cover cover' k) (windows-end ticks k (omega (arith, n, h))) in
        let old = ap (after l.found) none ∙ ap listed (append-nil l.found) in
        subst (λ (x : WindowsAnswer). Found-Is x f) (sym old ∙ l.same) l.holds
