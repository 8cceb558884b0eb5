-- Bytes of text: `ascii`, the bytes of a quoted text; `split`, the pieces between separators; `single_spaced`, a line with each run of spaces as one space;
-- `equal`, whether two texts are the same bytes. Rests on nothing.
use Rattle.std.specs.Prelude.{ℕ, Bool, true, false, cond, ◌&&◌, List, [], ◌∷◌, eqb}
use Prim.Native.String.{String, [] as []ˢ, ◌∷◌ as ◌∷ˢ◌}
use Prim.Native.Char.{code}

abbrev pub line_feed : ℕ
line_feed = 10

abbrev pub space : ℕ
space = 32

-- the bytes of an ASCII text, one for each character
unfoldable pub ascii : String → List ℕ
ascii []ˢ = []
ascii (c ∷ˢ s) = code c ∷ ascii s

-- the byte put in front of the first piece
abbrev pub on_first : ℕ → List (List ℕ) → List (List ℕ)
on_first b [] = []
on_first b (p ∷ ps) = (b ∷ p) ∷ ps

-- the pieces into which the separators cut a text, one more than there are separators
unfoldable pub split : ℕ → List ℕ → List (List ℕ)
split separator [] = [] ∷ []
split separator (b ∷ s) = cond (eqb separator b) ([] ∷ split separator s) (on_first b (split separator s))

abbrev pub starts_with : ℕ → List ℕ → Bool
starts_with b [] = false
starts_with b (c ∷ s) = eqb b c

-- a text with every run of spaces written as one space
unfoldable pub single_spaced : List ℕ → List ℕ
single_spaced [] = []
single_spaced (b ∷ s) = cond (eqb space b && starts_with space s) (single_spaced s) (b ∷ single_spaced s)

unfoldable pub equal : List ℕ → List ℕ → Bool
equal [] [] = true
equal [] (c ∷ t) = false
equal (b ∷ s) [] = false
equal (b ∷ s) (c ∷ t) = eqb b c && equal s t
