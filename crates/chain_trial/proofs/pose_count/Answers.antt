-- `pose_count` meets its contract: one test chooses.
use borrow.Author.Tests.{eq-eqb, ne_eqb}
use Rattle.chain_trial.specs.Try.{poses_in}
use borrow.Author.Rules.{rules}
use Rattle.chain_trial.proofs.pose_count.Goals as goal

pub returns-then-moves-eq0 : goal.returns-then-moves-eq0
unfolding poses_in
returns-then-moves-eq0 c = record { value = rw (eq-eqb _ 0 c.if-moves-eq0.true) }

pub returns : goal.returns
unfolding poses_in
returns c = record { value = rw (ne_eqb _ 0 c.if-moves-eq0.false) }
