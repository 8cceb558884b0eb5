-- The rows as a loop names them. The invariant, `Loop`: the places named so far, with those among the rows that are left, are all of them: `loop-first`,
-- `loop-met`, `loop-missed`, `loop-last`.
use Prim.Native.Nat.{ℕ, suc, ◌+◌, ◌-◌, ◌≤◌, ◌<◌}
use mathlib.Core.Path.{◌≡◌, refl, sym, ap, subst, ◌∙◌}
use mathlib.Core.Bool.{true, false}
use mathlib.Core.List.{List, [], ◌∷◌, ◌++◌, map, append-nil, append_assoc}
use native.Mathlib.Omega.{arith}
use lib.ListN.{length, get_or, drop, set, replicate, length-append, drop_of_length-le}
use lib.Seq.{drop-cons, set-append_seam, append_snoc}
use lib.Ieee.{Float}
use Rattle.bounds3.specs.declared.Bounds3f.{Bounds3f}
use Rattle.bounds3.specs.List.{Bounds3f-of_list}
use Rattle.bounds_overlap.specs.Meets.{Bounds3f-meets}
use Rattle.reached_rows.specs.Rows.{max_rows, met_from}
use Rattle.reached_rows.specs.means.Named.{Named-Holds}

-- ---- one more place
holds-add : {ks places : List ℕ} {count : ℕ} (k : ℕ) → Named-Holds ks places count → length ks < max_rows
    → Named-Holds (ks ++ (k ∷ [])) (set places count k) (count + 1)
holds-add {ks} {places} {count} k h l =
    let m = max_rows - length ks - 1 in
    let e : max_rows - length ks ≡ suc m = omega (arith, l) in
    let n = length-append ks (k ∷ []) in
    let f : max_rows - length (ks ++ (k ∷ [])) ≡ m = omega (arith, n) in
    record {
      front = rw (h.front, h.counted, e, f) (set-append_seam ks 0 (replicate m 0) k ∙ sym (append_snoc ks k (replicate m 0)));
      counted = rw h.counted (sym n);
    }

-- ---- the loop
module _ (cover : Bounds3f) (rows : List (List Float)) where
  abbrev left_from : ℕ → List ℕ
  left_from i = met_from cover i (map Bounds3f-of_list (drop i rows))

  abbrev all : List ℕ
  all = met_from cover 0 (map Bounds3f-of_list rows)

  pub record Loop (places : List ℕ) (count i : ℕ) : Type 0 where
    pub named : List ℕ
    pub holds : Named-Holds named places count
    pub few : length named ≤ i
    pub whole : named ++ left_from i ≡ all

  pub loop-first : Loop (replicate max_rows 0) 0 0
  loop-first = record { named = []; holds = record { front = refl; counted = refl }; few = omega arith; whole = refl }

  met-step : (i : ℕ) → i < length rows → Bounds3f-meets cover (Bounds3f-of_list (get_or rows i [])) ≡ true → left_from i ≡ i ∷ left_from (suc i)
  unfolding met_from
  met-step i h m = ap (λ (l : List (List Float)). met_from cover i (map Bounds3f-of_list l)) (drop-cons rows i [] h) ∙ rw m

  missed-step : (i : ℕ) → i < length rows → Bounds3f-meets cover (Bounds3f-of_list (get_or rows i [])) ≡ false → left_from i ≡ left_from (suc i)
  unfolding met_from
  missed-step i h m = ap (λ (l : List (List Float)). met_from cover i (map Bounds3f-of_list l)) (drop-cons rows i [] h) ∙ rw m

  module _ {places : List ℕ} {count i : ℕ} (l : Loop places count i) where
    pub loop-few : i < length rows → length rows ≤ max_rows → count < max_rows
    loop-few h t = let c = l.holds.counted in let n = l.few in omega (arith, c, n, h, t)

    pub loop-met : {places' : List ℕ} {count' : ℕ} → i < length rows → length rows ≤ max_rows → Bounds3f-meets cover (Bounds3f-of_list (get_or rows i [])) ≡ true
        → places' ≡ set places count i → count' ≡ count + 1 → Loop places' count' (i + 1)
    loop-met {places'} {count'} h t m e f =
        let n = l.few in
        let s : i + 1 ≡ suc i = omega arith in
        let more = length-append l.named (i ∷ []) in
        record {
          named = l.named ++ (i ∷ []);
          holds = rw (e, f) (holds-add i l.holds (omega (arith, n, h, t)));
          few = omega (arith, n, more);
          whole = rw s (append_assoc l.named (i ∷ []) (left_from (suc i)) ∙ ap (λ (r : List ℕ). l.named ++ r) (sym (met-step i h m)) ∙ l.whole);
        }

    pub loop-missed : {places' : List ℕ} {count' : ℕ} → i < length rows → Bounds3f-meets cover (Bounds3f-of_list (get_or rows i [])) ≡ false
        → places' ≡ places → count' ≡ count → Loop places' count' (i + 1)
    loop-missed {places'} {count'} h m e f =
        let n = l.few in
        let s : i + 1 ≡ suc i = omega arith in
        record {
          named = l.named;
          holds = rw (e, f) l.holds;
          few = omega (arith, n);
          whole = rw s (ap (λ (r : List ℕ). l.named ++ r) (sym (missed-step i h m)) ∙ l.whole);
        }

    pub loop-last : length rows ≤ i → Named-Holds all places count
    unfolding met_from
    loop-last h =
        let none = ap (λ (r : List (List Float)). met_from cover i (map Bounds3f-of_list r)) (drop_of_length-le rows h) in
        let e = sym (append-nil l.named) ∙ ap (λ (r : List ℕ). l.named ++ r) (sym none) ∙ l.whole in
        subst (λ (ks : List ℕ). Named-Holds ks places count) e l.holds
