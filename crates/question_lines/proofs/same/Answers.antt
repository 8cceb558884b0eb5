use Rattle.std.proofs.Common.{rules}
use Rattle.question_lines.proofs.Positions.{equal-same}
use Rattle.question_lines.proofs.same.Goals as goal

pub returns : goal.returns
returns c = record { value = equal-same c.args.a.now c.args.b.now _ (search rules) }
