-- `read` is `MoveFile-read`, and it puts `MoveFile-poses`, once it has told the names of the file's first line (`told`).
use native.Mathlib.Omega.{arith}
use mathlib.Core.Path.{sym, ◌∙◌}
use mathlib.Core.Bool.{true, false}
use Rattle.motion_file.specs.Text.{ascii}
use Rattle.motion_file.proofs.Files.{told}
use Rattle.file_reader.proofs.read.Goals as goal

pub read_columns-requires : goal.read_columns-requires
read_columns-requires c = record { le_columns = omega arith; columns_bound = omega arith }

pub returns-then-has_pads : goal.returns-then-has_pads
unfolding ascii
returns-then-has_pads c = let all = told true c.args.bytes.now c.args.poses.now _ _ (sym c.has_pads.ensures ∙ c.if-has_pads.true) (c.read_columns.ensures.value, (c.read_columns.ensures.left, c.read_columns.ensures.count)) in record { value = all.0; left = all.1.0; count = all.1.1 }

pub read_columns-requires-2 : goal.read_columns-requires-2
read_columns-requires-2 c = record { le_columns = omega arith; columns_bound = omega arith }

pub returns : goal.returns
unfolding ascii
returns c = let all = told false c.args.bytes.now c.args.poses.now _ _ (sym c.has_pads.ensures ∙ c.if-has_pads.false) (c.read_columns-2.ensures.value, (c.read_columns-2.ensures.left, c.read_columns-2.ensures.count)) in record { value = all.0; left = all.1.0; count = all.1.1 }
