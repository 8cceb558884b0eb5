-- `pads_row` meets its contract.
use Rattle.motion_rows.proofs.pads_row.Goals as goal

pub returns : goal.returns
returns c = record { value = rw c.flag.ensures.value }
