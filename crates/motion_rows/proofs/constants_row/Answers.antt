-- `constants_row` meets its contract.
use Rattle.motion_rows.specs.Rows.{constants_row}
use borrow.Author.Rules.{rules}
use Rattle.motion_rows.proofs.constants_row.Goals as goal

pub returns : goal.returns
unfolding constants_row
returns c = record { value = rw (c.flag-2.ensures.value, c.flag.ensures.value, c.constants-a.ensures.value) }
