-- `longest_x` meets its contract: its widths and comparisons are the definition's.
use mathlib.Core.Path.{refl}
use Rattle.cut_laws.specs.Cut.{longest_x}
use Rattle.cut_parts.proofs.longest_x.Goals as goal

pub returns : goal.returns
unfolding longest_x
returns c = record { value = refl }
