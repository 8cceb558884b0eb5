-- Lent places after a line was read into them: `values_left`. Definitions only; rests on the layout of `motion_file`.
use Rattle.std.specs.Prelude.{ℕ, cond, List, Float, length}
use Rattle.motion_file.specs.Layout.{values, fits, values_of}

-- the values of a line that is one for each place, and otherwise what stood there
unfoldable pub values_left : List ℕ → List Float → List Float
values_left line old = cond (fits (values (length old)) line) (values_of line) old
