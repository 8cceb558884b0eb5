-- `kind_stage` meets its contract: the kind chooses the case.
use Rattle.motion_chain.specs.Chain.{kind_stage}
use Rattle.chain_poses.proofs.kind_stage.Goals as goal

pub returns-then-rigid : goal.returns-then-rigid
unfolding kind_stage
returns-then-rigid c = record { value = rw c.if-rigid.true c.pose_stage.ensures.value }

pub returns : goal.returns
unfolding kind_stage
returns c = record { value = rw c.if-rigid.false }
