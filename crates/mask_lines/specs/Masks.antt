-- A mask of windows in an answer line: a space and sixteen hexadecimal digits. Definitions only.
use Rattle.std.specs.Prelude.{ℕ, ◌/◌, ◌%◌, List, ◌∷◌, ◌++◌}
use Rattle.answer_lines.specs.motion_file.Text.{space}
use Rattle.hexadecimal.specs.Word.{digits}

-- the digits of the upper half, then those of the lower
unfoldable pub mask_text : ℕ → List ℕ
mask_text mask = space ∷ (digits 8 (mask / 4294967296) ++ digits 8 (mask % 4294967296))
