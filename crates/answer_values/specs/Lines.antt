-- Answers as lines: `answer_pieces`, `ok` and values or the number of a refusal; `error_text`; whole numbers, rows of floats and places as pieces of text.
-- Rests on the pieces of `answer_lines`.
use Rattle.std.specs.Prelude.{ℕ, cond, List, [], ◌∷◌, ◌++◌, eqb, leb, Float, length, take}
use Rattle.answer_lines.specs.motion_file.Text.{ascii, line_feed, space}
use Rattle.answer_lines.specs.Pieces.{decimal, whole_pieces, refused_pieces, floats_text}

-- the line that answers what is no question
unfoldable pub error_text : List ℕ
error_text = ascii "error" ++ (line_feed ∷ [])

-- whole numbers, a space before each
unfoldable pub decimal_pieces : List ℕ → List (List ℕ)
decimal_pieces [] = []
decimal_pieces (n ∷ ns) = (space ∷ []) ∷ decimal n ∷ decimal_pieces ns

-- the first so many whole numbers, none where there are fewer
unfoldable pub wholes_pieces : List ℕ → ℕ → List (List ℕ)
wholes_pieces ns count = cond (leb count (length ns)) (decimal_pieces (take count ns)) []

-- rows of so many floats
unfoldable pub rows_pieces : ℕ → List (List Float) → List (List ℕ)
rows_pieces size [] = []
rows_pieces size (r ∷ rs) = floats_text r size ∷ rows_pieces size rs

-- floats, and whole numbers behind them
abbrev pub counted_pieces : List Float → List ℕ → List (List ℕ)
counted_pieces values counts = floats_text values (length values) ∷ wholes_pieces counts (length counts)

-- how many places there are, and the places
abbrev pub places_pieces : List ℕ → ℕ → List (List ℕ)
places_pieces places count = whole_pieces count ++ wholes_pieces places count

-- the line that answers a question: `ok` and what follows it, or the number of a refusal
unfoldable pub answer_pieces : ℕ → List (List ℕ) → List (List ℕ)
answer_pieces refusal pieces = cond (eqb refusal 0) (ascii "ok" ∷ (pieces ++ ((line_feed ∷ []) ∷ []))) (refused_pieces refusal)
