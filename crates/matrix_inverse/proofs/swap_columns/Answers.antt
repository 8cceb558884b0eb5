-- `swap_columns` meets its contract: each call swaps the entries of a row.
use Rattle.matrix_inverse.specs.RestoreColumns.{swap_columns}
use Rattle.matrix_inverse.proofs.swap_columns.Goals as goal

pub returns : goal.returns
unfolding swap_columns
returns c = record { value = rw (c.swap_entries.ensures.value, c.swap_entries-2.ensures.value, c.swap_entries-3.ensures.value, c.swap_entries-4.ensures.value) }
