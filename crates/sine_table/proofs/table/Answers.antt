-- The constant passes the test of a whole table, which is computed here.
use Rattle.sine_table.specs.Table.{sine_entry, taylor_sum}
use Rattle.sine_table.proofs.Entries.{tested}
use Rattle.sine_table.proofs.table.Goals as goal

pub returns : goal.returns
unfolding sine_entry taylor_sum
returns c = let all = tested tt in record { value = all.0; rule = all.1 }
