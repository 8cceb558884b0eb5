-- `read_values` puts the values of a line once it is judged, and otherwise nothing.
use mathlib.Core.Path.{sym, ◌∙◌}
use Rattle.file_lines.specs.Values.{values_left}
use Rattle.file_lines.proofs.read_values.Goals as goal

pub put_values-requires : goal.put_values-requires
put_values-requires c = sym c.are_values-kept.ensures ∙ c.if-kept.true

pub returns-then-kept : goal.returns-then-kept
unfolding values_left
returns-then-kept c = record { value = c.are_values-kept.ensures; left = rw (← c.are_values-kept.ensures, c.if-kept.true) c.put_values.ensures }

pub returns-else-kept : goal.returns-else-kept
unfolding values_left
returns-else-kept c = let judged = c.are_values-kept in record { value = judged.ensures; left = rw (← judged.ensures, c.if-kept.false) }
