-- `put_flag` puts 1 or 0.
use Rattle.motion_parts.specs.Parts.{flag_pieces}
use Rattle.motion_parts.proofs.put_flag.Goals as goal

pub returns-then-x : goal.returns-then-x
unfolding flag_pieces
returns-then-x c = record { value = rw c.if-x.true c.put_decimal.ensures.value; left = rw c.if-x.true c.put_decimal.ensures.left }

pub returns : goal.returns
unfolding flag_pieces
returns c = record { value = rw c.if-x.false c.put_decimal-2.ensures.value; left = rw c.if-x.false c.put_decimal-2.ensures.left }
