-- The clauses of reading a file into lent arrays: `read-clauses`, where its box is stored, and `refused-clauses`, where it isn't.
use Prim.Native.Nat.{ℕ}
use mathlib.Core.Path.{◌≡◌, refl, ap}
use mathlib.Core.List.{List}
use borrow.Author.Tests.{eq-eqb, ne_eqb}
use lib.Ieee.{Float}
use Rattle.file_reader.specs.motion_file.declared.MoveFile.{MoveFile}
use Rattle.file_reader.specs.motion_file.Layout.{MoveFile-read, MoveFile-poses}
use Rattle.file_reader.specs.motion_file.Front.{front}
use Rattle.api.specs.Files.{MoveFile-bounds_left}

abbrev Clauses : List ℕ → ℕ → ℕ → List (List Float) → List (List Float) → List Float → List Float → Type 0
Clauses bytes count refusal poses left bounds kept =
    (count ≡ (MoveFile-read bytes).count)
    × ((refusal ≡ (MoveFile-read bytes).refusal)
    × ((left ≡ front (MoveFile-poses bytes) poses)
    × (kept ≡ MoveFile-bounds_left (MoveFile-read bytes) bounds)))

module _ (bytes : List ℕ) (file : MoveFile) (e : file ≡ MoveFile-read bytes) (left poses : List (List Float)) (bounds : List Float)
    (el : left ≡ front (MoveFile-poses bytes) poses) where
  stored : file.refusal ≡ 0 → file.bounds ≡ MoveFile-bounds_left (MoveFile-read bytes) bounds
  unfolding MoveFile-bounds_left
  stored h = rw (← e, eq-eqb file.refusal 0 h)

  stayed : (file.refusal ≡ 0 → ⊥) → bounds ≡ MoveFile-bounds_left (MoveFile-read bytes) bounds
  unfolding MoveFile-bounds_left
  stayed h = rw (← e, ne_eqb file.refusal 0 h)

  pub read-clauses : file.refusal ≡ 0 → Clauses bytes file.count file.refusal poses left bounds file.bounds
  read-clauses h = (ap (λ (f : MoveFile). f.count) e, (ap (λ (f : MoveFile). f.refusal) e, (el, stored h)))

  pub refused-clauses : (file.refusal ≡ 0 → ⊥) → Clauses bytes file.count file.refusal poses left bounds bounds
  refused-clauses h = (ap (λ (f : MoveFile). f.count) e, (ap (λ (f : MoveFile). f.refusal) e, (el, stayed h)))
