-- `first_refusal` meets its contract: no row before k is refused, so that the number is that of the rows from k on.
use mathlib.Core.Path.{◌≡◌}
use Rattle.reached_rows.proofs.Numbers.{number_from}
use Rattle.reached_rows.proofs.first_refusal.Given as goal

abbrev pub invariant-loop-row : goal.invariant-loop-row
invariant-loop-row l = number_from l.rows l.row-index ≡ number_from l.rows 0
