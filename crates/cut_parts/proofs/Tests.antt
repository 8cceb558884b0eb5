-- A cut as the code makes it, part by part: nothing is put before the first, `cutting-first`, one more part, `cutting-next`, and what is left in the end,
-- `cut-done`, or where it is refused, `cut-refused`.
use Prim.Native.Nat.{ℕ, ◌+◌, ◌≤◌}
use mathlib.Core.Path.{◌≡◌, refl, sym, ap, ◌∙◌}
use mathlib.Core.List.{List}
use native.Mathlib.Omega.{arith}
use native.Mathlib.Numerals.{add-one}
use borrow.Author.Tests.{eq-eqb, ne_eqb}
use lib.ListN.{length, set}
use lib.Ieee.{Float}
use Rattle.bounds3.specs.declared.Bounds3f.{Bounds3f}
use Rattle.bounds3.specs.List.{Bounds3f-list}
use Rattle.cut_laws.specs.lent_laws.Front.{in_front}
use Rattle.cut_laws.proofs.lent_laws.Front.{front-next}
use Rattle.cut_laws.specs.Cut.{max_parts, cut_refusal, Bounds3f-part, Bounds3f-parts, Bounds3f-cut}
use Rattle.cut_laws.specs.Theorem.{PartsWithin, PartsCover}
use Rattle.cut_laws.proofs.Parts.{LowFits, parts-length, parts_within, parts-cover}

abbrev Clauses : Bounds3f → ℕ → List (List Float) → List (List Float) → ℕ → Type 0
Clauses b n old new number =
    (number ≡ cut_refusal b n) × ((new ≡ Bounds3f-cut b n old) × ((number ≡ 0 → PartsWithin b n new) × (number ≡ 0 → PartsCover b n new)))

module _ (b : Bounds3f) (n : ℕ) (old : List (List Float)) where
  pub record Cutting (new : List (List Float)) (k : ℕ) : Type 0 where
    pub put : new ≡ in_front (Bounds3f-parts b n k) old

  pub cutting-first : Cutting old 0
  unfolding Bounds3f-parts in_front
  cutting-first = record { put = refl }

  pub cutting-next : {new : List (List Float)} {k : ℕ} {part : Bounds3f} {values : List Float} → Cutting new k
      → values ≡ Bounds3f-list part → part ≡ Bounds3f-part b n k → Cutting (set new k values) (k + 1)
  unfolding Bounds3f-parts
  cutting-next {new} {k} {part} {values} c v e = record {
    put = rw (c.put, v, e, add-one) (front-next (Bounds3f-parts b n k) old (Bounds3f-list (Bounds3f-part b n k)) k (parts-length b n k));
  }

  pub cutting-last : {new : List (List Float)} {k : ℕ} → Cutting new k → k ≡ n → new ≡ in_front (Bounds3f-parts b n n) old
  cutting-last {new} {k} c e = c.put ∙ ap (λ (j : ℕ). in_front (Bounds3f-parts b n j) old) e

  pub cut-refused : {number : ℕ} → number ≡ cut_refusal b n → (number ≡ 0 → ⊥) → Clauses b n old old number
  unfolding Bounds3f-cut
  cut-refused {number} e z = (e, (rw (← e, ne_eqb number 0 z), ((λ k. absurd (z k)), λ k. absurd (z k))))

  cut-accepted : cut_refusal b n ≡ 0 → Bounds3f-cut b n old ≡ in_front (Bounds3f-parts b n n) old
  unfolding Bounds3f-cut
  cut-accepted e = rw (eq-eqb (cut_refusal b n) 0 e)

  pub cut-done : {new : List (List Float)} → LowFits b → cut_refusal b n ≡ 0 → length old ≡ max_parts → new ≡ in_front (Bounds3f-parts b n n) old
      → Clauses b n old new 0
  cut-done {new} low e room c =
      let left : new ≡ Bounds3f-cut b n old = c ∙ sym (cut-accepted e) in
      let h : max_parts ≤ length old = omega (arith, room) in
      (sym e, (left, ((λ _. rw left (parts_within b n old e h low)), λ _. rw left (parts-cover b n old e h))))
