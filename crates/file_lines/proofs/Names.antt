-- A line of names compared with its text from a place on: `names_same` goes one byte on, `names-differ`, `names-short` and `names-end` decide.
-- Rests on `Spaces.antt`.
use Prim.Native.Nat.{ℕ, suc, ◌+◌, ◌≤◌, ◌<◌}
use native.Mathlib.Numerals.{add-one}
use native.Mathlib.Omega.{arith}
use native.Mathlib.Nat.{eq-or-lt_of_le}
use mathlib.Core.Path.{◌≡◌}
use mathlib.Core.Bool.{Bool, false}
use mathlib.Core.List.{List, []}
use mathlib.Core.Logic.{⊎_elim}
use lib.Dec.{eqb}
use lib.ListN.{length, drop, get_or, drop_of_length-le}
use lib.Seq.{drop-cons}
use borrow.Author.Tests.{eq-eqb, ne_eqb}
use Rattle.motion_file.specs.Text.{single_spaced, equal}
use Rattle.motion_file.specs.means.Place.{NextByte}
use Rattle.file_lines.proofs.Spaces.{single_spaced-first}

module _ (line names : List ℕ) where
  -- whether the line from a place on is the names from a place on
  abbrev pub same_from : ℕ → ℕ → Bool
  same_from at i = equal (single_spaced (drop at line)) (drop i names)

  pub names_same : (at i next : ℕ) → NextByte line at next → i < length names → get_or line at 0 ≡ get_or names i 0
      → same_from at i ≡ same_from next (i + 1)
  unfolding equal
  names_same at i next n h e =
      rw (n.spaced, drop-cons names i 0 h, add-one i, eq-eqb (get_or line at 0) (get_or names i 0) e)

  pub names-differ : (at i : ℕ) → at < length line → i < length names → (get_or line at 0 ≡ get_or names i 0 → ⊥) → same_from at i ≡ false
  unfolding equal
  names-differ at i g h n =
      rw (
        drop-cons line at 0 g,
        drop-cons names i 0 h,
        (single_spaced-first (get_or line at 0) (drop (suc at) line)).1,
        ne_eqb (get_or line at 0) (get_or names i 0) n,
      )

  pub names-short : (at i : ℕ) → length line ≤ at → i < length names → same_from at i ≡ false
  unfolding equal single_spaced
  names-short at i g h = rw (drop_of_length-le line g, drop-cons names i 0 h)

  pub names-end : (at i : ℕ) → at ≤ length line → length names ≤ i → same_from at i ≡ eqb at (length line)
  unfolding equal single_spaced
  names-end at i g h = rw (drop_of_length-le names h) (⊎_elim whole left (eq-or-lt_of_le g))
    where
      whole : at ≡ length line → equal (single_spaced (drop at line)) [] ≡ eqb at (length line)
      whole e = rw (eq-eqb at (length line) e, drop_of_length-le line {i = at} (omega arith))

      left : at < length line → equal (single_spaced (drop at line)) [] ≡ eqb at (length line)
      left l =
          rw (ne_eqb at (length line) (omega arith), drop-cons line at 0 l, (single_spaced-first (get_or line at 0) (drop (suc at) line)).1)
