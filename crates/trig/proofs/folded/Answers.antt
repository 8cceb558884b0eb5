use native.Mathlib.Omega.{arith}
use Rattle.trig.proofs.Quarters.{fold-odd, fold-even}
use Rattle.trig.proofs.folded.Goals as goal

pub returns-then-k-eq1 : goal.returns-then-k-eq1
returns-then-k-eq1 c = record { value = fold-odd c.args.k c.args.v c.if-k-eq1.true }

pub returns : goal.returns
returns c = record { value = fold-even c.args.k c.args.v (omega arith) }
