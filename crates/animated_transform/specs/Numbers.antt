-- The refusal numbers that building can give, 0 for none: document 01's 1 to 5, document 02's 16, and 17 and 18 of a rigid move. Definitions only.
use Rattle.std.specs.Prelude.{ℕ, Bool, true, false, List, [], ◌∷◌}

abbrev pub kind_numbers : Bool → List ℕ
kind_numbers true = 17 ∷ 18 ∷ []
kind_numbers false = []

abbrev pub build_numbers : Bool → List ℕ
build_numbers rigid = 0 ∷ 1 ∷ 2 ∷ 3 ∷ 4 ∷ 5 ∷ 16 ∷ kind_numbers rigid
