-- `jellyplain_motion_bounds` meets its contract: the motion box of a box, for the move in the rows.
use borrow.Author.Rules.{rules}
use Rattle.api.proofs.jellyplain_motion_bounds.Goals as goal

pub returns : goal.returns
returns c = let worked = c.motion_bounds.ensures.value in let given = c.bounds.ensures.value in let rows = c.from_rows.ensures.value in record { refusal = rw (c.put_motion_bounds.ensures.refusal, worked, given, rows); left = rw (c.put_motion_bounds.ensures.left, worked, given, rows); examined = rw (c.put_motion_bounds.ensures.examined, worked, given, rows) }
