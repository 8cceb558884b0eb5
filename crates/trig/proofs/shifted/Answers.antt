use Rattle.trig.proofs.Shift.{shift_none, shift-right}
use Rattle.trig.proofs.shifted.Goals as goal

pub returns-then-j-lt95 : goal.returns-then-j-lt95
returns-then-j-lt95 c = record { value = shift_none c.args.m c.args.j c.requires.fact_1 c.if-j-lt95.true }

pub returns : goal.returns
returns c = record { value = shift-right c.args.m c.args.j c.requires.fact_2 }
