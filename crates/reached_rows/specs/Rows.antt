-- Which rows a boom reaches: of 1 to 256 rows, each a box, those that a cover meets. Definitions only. Quotations are of docs/SPECIFICATION.md, "Added: rows".
use Rattle.std.specs.Prelude.{ℕ, suc, ◌-◌, ◌||◌, cond, List, [], ◌∷◌, ◌++◌, eqb, ltb, length, replicate}
use Rattle.bounds3.specs.declared.Bounds3f.{Bounds3f}
use Rattle.bounds_overlap.specs.Meets.{Bounds3f-meets}
use Rattle.bounds_query.specs.Query.{Bounds3f-refusal}
use Rattle.window_pairs.specs.motion_chain.Chain.{first_number, stage}

-- "1 to 256 rows"
abbrev pub max_rows : ℕ
max_rows = 256

-- "No rows or more than 256 are 14, judged first; then 6 and 7 of the cover; then 6 and 7 of the rows, of which the first refused one in order gives the
-- number"; 0 is none
unfoldable pub rows_refusal : Bounds3f → List Bounds3f → ℕ
rows_refusal cover rows =
    first_number (cond (eqb (length rows) 0 || ltb max_rows (length rows)) 14 0 ∷ Bounds3f-refusal cover ∷ stage Bounds3f-refusal rows ∷ [])

-- "the places, counted from 0 and rising, of the rows that the cover meets, touching included": k is the place of the first row
unfoldable pub met_from : Bounds3f → ℕ → List Bounds3f → List ℕ
met_from cover k [] = []
met_from cover k (row ∷ rows) = let later = met_from cover (suc k) rows in cond (Bounds3f-meets cover row) (k ∷ later) later

-- the answer; a refusal names no row
unfoldable pub reached_rows : Bounds3f → List Bounds3f → List ℕ
reached_rows cover rows = cond (eqb (rows_refusal cover rows) 0) (met_from cover 0 rows) []

-- "the named places in front and 0 behind them"; "a refusal leaves the lent places as they came", `old`
unfoldable pub rows_left : Bounds3f → List Bounds3f → List ℕ → List ℕ
rows_left cover rows old =
    let named = reached_rows cover rows in
    cond (eqb (rows_refusal cover rows) 0) (named ++ replicate (max_rows - length named) 0) old
