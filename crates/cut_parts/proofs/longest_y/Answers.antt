-- `longest_y` meets its contract: its widths and comparisons are the definition's.
use mathlib.Core.Path.{refl}
use Rattle.cut_laws.specs.Cut.{longest_y}
use Rattle.cut_parts.proofs.longest_y.Goals as goal

pub returns : goal.returns
unfolding longest_y
returns c = record { value = refl }
