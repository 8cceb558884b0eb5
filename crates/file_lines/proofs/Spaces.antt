-- Runs of spaces written as one, by place in a line: `next-other`, a byte that is no space;
-- `run-first`, `run_more`, `run-over`, the run that begins at a space.
use Prim.Native.Nat.{ℕ, suc, ◌+◌, ◌≤◌, ◌<◌}
use native.Mathlib.Numerals.{add-one}
use native.Mathlib.Omega.{arith}
use mathlib.Core.Path.{◌≡◌, refl, sym, ◌∙◌, ap}
use mathlib.Core.Bool.{Bool, true, false, cond, ◌&&◌}
use mathlib.Core.List.{List, [], ◌∷◌}
use lib.Dec.{eqb}
use lib.ListN.{length, drop, get_or, drop_of_length-le}
use lib.Seq.{drop-cons}
use borrow.Author.Tests.{eqb-true, ne_eqb}
use Rattle.motion_file.specs.Text.{space, starts_with, single_spaced}
use Rattle.motion_file.specs.means.Place.{NextByte}

pub single_spaced-other : (b : ℕ) (s : List ℕ) → (b ≡ space → ⊥) → single_spaced (b ∷ s) ≡ b ∷ single_spaced s
unfolding single_spaced
single_spaced-other b s n = rw (ne_eqb space b (λ e. n (sym e)))

single_spaced-last : (s : List ℕ) → starts_with space s ≡ false → single_spaced (space ∷ s) ≡ space ∷ single_spaced s
unfolding single_spaced
single_spaced-last s e = rw e

-- the first byte stays the first
pub single_spaced-first : (b : ℕ) (s : List ℕ) → (rest : List ℕ) × (single_spaced (b ∷ s) ≡ b ∷ rest)
unfolding single_spaced
single_spaced-first b [] = go (eqb space b)
  where
    go : (t : Bool) → (rest : List ℕ) × (cond (t && false) [] (b ∷ []) ≡ b ∷ rest)
    go true = ([], refl)
    go false = ([], refl)
single_spaced-first b (c ∷ s) = go (eqb space b) (eqb space c) refl refl (single_spaced-first c s)
  where
    go : (t u : Bool) → eqb space b ≡ t → eqb space c ≡ u → ((rest : List ℕ) × (single_spaced (c ∷ s) ≡ c ∷ rest))
        → (rest : List ℕ) × (cond (t && u) (single_spaced (c ∷ s)) (b ∷ single_spaced (c ∷ s)) ≡ b ∷ rest)
    go true true d e ih = (ih.0, ih.1 ∙ ap (λ (a : ℕ). a ∷ ih.0) (sym (eqb-true space c e) ∙ eqb-true space b d))
    go true false d e ih = (single_spaced (c ∷ s), refl)
    go false u d e ih = (single_spaced (c ∷ s), refl)

module _ (line : List ℕ) where
  pub next-other : (at : ℕ) → at < length line → (get_or line at 0 ≡ space → ⊥) → NextByte line at (at + 1)
  next-other at h n =
      record {
        after = omega arith;
        within = omega arith;
        spaced = rw (add-one at, drop-cons line at 0 h) (single_spaced-other (get_or line at 0) (drop (suc at) line) n);
      }

  pub run-first : (at : ℕ) → at < length line → get_or line at 0 ≡ space
      → single_spaced (drop at line) ≡ single_spaced (space ∷ drop (at + 1) line)
  run-first at h e = rw (add-one at, drop-cons line at 0 h, e)

  pub run_more : (i : ℕ) → i < length line → get_or line i 0 ≡ space
      → single_spaced (space ∷ drop i line) ≡ single_spaced (space ∷ drop (i + 1) line)
  unfolding single_spaced
  run_more i h e = rw (add-one i, drop-cons line i 0 h, e)

  pub run-over : (i : ℕ) → i < length line → (get_or line i 0 ≡ space → ⊥)
      → single_spaced (space ∷ drop i line) ≡ space ∷ single_spaced (drop i line)
  run-over i h n = single_spaced-last (drop i line) (rw (drop-cons line i 0 h) (ne_eqb space (get_or line i 0) (λ e. n (sym e))))

  pub run_end : (i : ℕ) → length line ≤ i → single_spaced (space ∷ drop i line) ≡ space ∷ single_spaced (drop i line)
  run_end i h = single_spaced-last (drop i line) (rw (drop_of_length-le line h))
