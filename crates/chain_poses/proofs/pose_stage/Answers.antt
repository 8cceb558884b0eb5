-- `pose_stage` meets its contract. Its loop keeps the first number of the poses from the index on: that of all.
use borrow.Author.Tests.{eq-eqb, ne_eqb}
use Rattle.motion_chain.specs.Chain.{first_number}
use Rattle.chain_poses.proofs.Loops.{poses-next, poses-end}
use Rattle.chain_poses.proofs.pose_stage.Goals as goal

pub returns-then-number-ne0 : goal.returns-then-number-ne0
unfolding first_number
returns-then-number-ne0 c = record {
  value = let l = c.loop-pose in
      let next = poses-next c.args.poses.now l.pose-index c.loop-pose-test.true in
      rw (← l.invariant, next, ← c.pose.ensures.value, ← c.pose_number-number.ensures.value, ne_eqb _ 0 c.if-number-ne0.true);
}

pub loop-pose-preserved : goal.loop-pose-preserved
unfolding first_number
loop-pose-preserved c =
    let l = c.loop-pose in
    let next = poses-next c.args.poses.now l.pose-index c.loop-pose-test.true in
    rw (← l.invariant, next, ← c.pose.ensures.value, ← c.pose_number-number.ensures.value, eq-eqb _ 0 c.if-number-ne0.false)

pub returns : goal.returns
unfolding first_number
returns c = record { value = let l = c.loop-pose in rw (← l.invariant, poses-end c.args.poses.now l.pose-index c.loop-pose-test.false) }
