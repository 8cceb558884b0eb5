-- The rows of the parts, one after the other: `rows-turn`, a row put, and `rows_end`; `rows-below`, each is a row of a move.
use Prim.Native.Nat.{ℕ, zero, suc, ◌+◌, ◌≤◌, ◌<◌, max}
use native.Mathlib.Numerals.{add-one}
use native.Mathlib.Omega.{arith}
use mathlib.Core.Path.{◌≡◌, refl}
use mathlib.Core.List.{List, [], ◌∷◌}
use lib.Ieee.{Float}
use lib.ListN.{get_or}
use lib.Seq.{drop-cons}
use Rattle.answer_lines.specs.Pieces.{put_all, behind_all, floats_text}
use Rattle.motion_parts.specs.Parts.{part_rows, part_size, row_pieces}
use Rattle.answer_lines.proofs.Put.{Puts}
use Rattle.answer_lines.proofs.Pieces.{all_cons}

greatest : List ℕ → ℕ
greatest [] = 0
greatest (n ∷ ns) = max n (greatest ns)

at-most-greatest : (ns : List ℕ) (k : ℕ) → get_or ns k 0 ≤ greatest ns
unfolding greatest
at-most-greatest [] k = omega arith
at-most-greatest (n ∷ ns) zero =
    let g : greatest (n ∷ ns) ≡ max n (greatest ns) = refl in
    let e : get_or (n ∷ ns) zero 0 ≡ n = refl in
    omega (arith, g, e)
at-most-greatest (n ∷ ns) (suc k) =
    let g : greatest (n ∷ ns) ≡ max n (greatest ns) = refl in
    let e : get_or (n ∷ ns) (suc k) 0 ≡ get_or ns k 0 = refl in
    omega (arith, g, e, at-most-greatest ns k)

pub rows-below : (k : ℕ) → get_or part_rows k 0 < 45
unfolding greatest
rows-below k =
    let g : greatest part_rows ≡ 42 = refl in
    omega (arith, g, at-most-greatest part_rows k)

module _ (motion : List (List Float)) where
  -- the text of the k-th row
  abbrev pub row_text : ℕ → List ℕ
  row_text k = floats_text (get_or motion (get_or part_rows k 0) []) (part_size (get_or part_rows k 0))

  rows_next : (k : ℕ) → k < 35 → row_pieces motion k ≡ row_text k ∷ row_pieces motion (k + 1)
  unfolding row_pieces
  rows_next k h = rw (add-one k, drop-cons part_rows k 0 h)

  -- what is still to be put, before a row and after it
  pub rows-turn : (k : ℕ) (o after : List ℕ) (end r : ℕ) → k < 35 → Puts (row_text k) o end after r
      → (behind_all (row_pieces motion (k + 1)) after r ≡ behind_all (row_pieces motion k) o end)
      × (put_all (row_pieces motion (k + 1)) after r ≡ put_all (row_pieces motion k) o end)
  rows-turn k o after end r h p = rw (rows_next k h) (all_cons (row_text k) (row_pieces motion (k + 1)) o after _ end r _ p (refl, refl))

  pub rows_end : (o : List ℕ) (end : ℕ) → (behind_all (row_pieces motion 35) o end ≡ end) × (put_all (row_pieces motion 35) o end ≡ o)
  unfolding row_pieces put_all behind_all
  rows_end o end = (refl, refl)
