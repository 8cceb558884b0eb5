-- The parts of a move that is kept as 45 rows: `parts_pieces`, their pieces of text. Rests on the pieces of `answer_lines`.
use Rattle.std.specs.Prelude.{ℕ, cond, ◌||◌, List, [], ◌∷◌, ◌++◌, map, eqb, Float, drop, get_or}
use Rattle.std.specs.Float.{nan, binary32}
use Rattle.std.specs.Float.Ieee.{of_bits, eq}
use Rattle.answer_lines.specs.Pieces.{whole_pieces, floats_text}

-- the rows in order: for start and end t, r, S and the inverse, then c1 to c5, each on the axes x y z
abbrev pub part_rows : List ℕ
part_rows =
    16 ∷ 18 ∷ 20 ∷ 21 ∷ 22 ∷ 23 ∷ 4 ∷ 5 ∷ 6 ∷ 7
    ∷ 17 ∷ 19 ∷ 24 ∷ 25 ∷ 26 ∷ 27 ∷ 12 ∷ 13 ∷ 14 ∷ 15
    ∷ 28 ∷ 33 ∷ 38 ∷ 29 ∷ 34 ∷ 39 ∷ 30 ∷ 35 ∷ 40 ∷ 31 ∷ 36 ∷ 41 ∷ 32 ∷ 37 ∷ 42 ∷ []

-- how many floats of a row: of a translation's, 16 and 17, the last is a time
unfoldable pub part_size : ℕ → ℕ
part_size i = cond (eqb i 16 || eqb i 17) 3 4

-- the pieces of the rows from a place on
unfoldable pub row_pieces : List (List Float) → ℕ → List (List ℕ)
row_pieces motion k = map (λ (i : ℕ). floats_text (get_or motion i []) (part_size i)) (drop k part_rows)

-- a yes or no: 1 or 0
unfoldable pub flag_pieces : Float → List (List ℕ)
flag_pieces x = whole_pieces (cond (eq x (of_bits binary32 0x3f800000)) 1 0)

-- whether the move is animated, whether it rotates, and the rows
unfoldable pub parts_pieces : List (List Float) → List (List ℕ)
parts_pieces motion = flag_pieces (get_or (get_or motion 43 []) 0 nan) ++ (flag_pieces (get_or (get_or motion 43 []) 1 nan) ++ row_pieces motion 0)
