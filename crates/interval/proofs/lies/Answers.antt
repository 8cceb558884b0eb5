-- `lies` meets its contract: the test without least and greatest.
use Rattle.interval.proofs.Places.{lies-is}
use Rattle.interval.proofs.lies.Goals as goal

pub returns : goal.returns
returns c = record { value = lies-is c.args.w c.args.u c.args.v }
