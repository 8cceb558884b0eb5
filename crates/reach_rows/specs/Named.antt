-- Which rows are named by boxes. Definitions only. Quotations are of docs/SPECIFICATION.md, "Added: reach".
use Rattle.std.specs.Prelude.{ℕ, Bool, false, ◌||◌, cond, List, [], ◌∷◌, ltb, length}
use Rattle.bounds3.specs.declared.Bounds3f.{Bounds3f}
use Rattle.bounds_overlap.specs.Meets.{Bounds3f-meets}

-- The test holds of some item.
unfoldable pub some : {A : Type 0} → (A → Bool) → List A → Bool
some test [] = false
some test (x ∷ xs) = test x || some test xs

-- "meets it on all three axes, touching included"
abbrev pub met_by : List Bounds3f → Bounds3f → Bool
met_by boxes row = some (λ b. Bounds3f-meets b row) boxes

-- Those that are named, and those that one of the boxes meets: row by row; names behind the rows' are as they came.
unfoldable pub next_names : List Bounds3f → List Bounds3f → List Bool → List Bool
next_names boxes [] names = names
next_names boxes (row ∷ rows) [] = []
next_names boxes (row ∷ rows) (named ∷ names) = (named || met_by boxes row) ∷ next_names boxes rows names

-- "1 to 256 rows"
abbrev pub max_rows : ℕ
max_rows = 256

-- Nothing is done for more rows.
unfoldable pub named_rows : List Bounds3f → List Bounds3f → List Bool → List Bool
named_rows boxes rows names = cond (ltb max_rows (length rows)) names (next_names boxes rows names)
