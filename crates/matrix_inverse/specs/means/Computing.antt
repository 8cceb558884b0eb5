-- What has to unfold for the inverse of a given matrix to compute, as one group: a case says `unfolding computing`.
use Rattle.std.specs.Float.Ieee.{sub, mul, div, eq, lt, le, of_bits}
use Rattle.float32.specs.Abs.{abs}
use Rattle.matrix4x4.specs.means.Computing as matrix
use Rattle.control_flow.specs.Loop.{loop}
use Rattle.matrix_inverse.specs.Pivot.{consider, search_row, Pivot-search}
use Rattle.matrix_inverse.specs.Eliminate.{swap_rows, replace, scale_row, clear_row, clear_at, eliminate}
use Rattle.matrix_inverse.specs.RestoreColumns.{swap_columns, restore_at, restore_columns}
use Rattle.matrix_inverse.specs.Inverse.{elimination_round, InverseAnswer-judged, finish, Matrix4x4-inverse}

unfoldable pub computing : Unit {0}
unfolding matrix.computing sub mul div eq lt le of_bits abs loop consider search_row Pivot-search swap_rows replace scale_row clear_row clear_at eliminate swap_columns
    restore_at restore_columns elimination_round InverseAnswer-judged finish Matrix4x4-inverse
computing = tt
