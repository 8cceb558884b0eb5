-- `build` meets its contract: it is refused by the chain's checks, or does what `build_passed` does.
use borrow.Author.Rules.{rules}
use lib.ListN.{length}
use Rattle.chain_poses.specs.Poses.{Poses-of_lists}
use Rattle.chain_build.proofs.Answer.{checks-refused}
use Rattle.chain_build.proofs.build.Goals as goal

pub returns-then-refusal-ne0 : goal.returns-then-refusal-ne0
returns-then-refusal-ne0 c = let a = c.args in let all = checks-refused a.rigid (Poses-of_lists a.poses.now) (length a.poses.now) a.moves.now c.refusal-refusal.ensures.value c.if-refusal-ne0.true in record { refusal = all.0; left = all.1.0; holds = all.1.1 }
