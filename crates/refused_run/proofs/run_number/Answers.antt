-- `run_number` meets its contract: one pose (`one-pose`), or any other run (`other-run`).
use mathlib.Core.Path.{◌∙◌}
use borrow.Author.Rules.{rules}
use Rattle.refused_run.proofs.Lent.{one-pose, other-run}
use Rattle.refused_run.proofs.run_number.Goals as goal

pub returns-then-run-eq1 : goal.returns-then-run-eq1
returns-then-run-eq1 c = record { value = c.move_number.ensures.value ∙ one-pose c.args.rigid c.args.run.now c.if-run-eq1.true }

pub returns : goal.returns
returns c = record { value = c.number.ensures.value ∙ other-run c.args.rigid c.args.run.now c.if-run-eq1.false }
