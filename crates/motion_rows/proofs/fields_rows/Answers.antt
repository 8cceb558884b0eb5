-- `fields_rows` meets its contract: the rows are written one by one.
use mathlib.Core.Path.{refl}
use Rattle.motion_rows.specs.Rows.{fields_rows}
use Rattle.motion_rows.proofs.fields_rows.Goals as goal

pub returns : goal.returns
unfolding fields_rows
returns c = record { value = refl }
