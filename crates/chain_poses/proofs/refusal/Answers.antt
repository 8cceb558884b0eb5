-- `refusal` meets its contract: the stages of the definition, in its order.
use Rattle.motion_chain.specs.Chain.{first_number, kind_stage, chain_refusal}
use Rattle.motion_chain.proofs.Built.{first-only}
use Rattle.chain_poses.specs.Poses.{Poses-of_lists}
use Rattle.chain_poses.proofs.Loops.{poses-length}
use Rattle.chain_poses.proofs.refusal.Goals as goal

pub returns : goal.returns
unfolding chain_refusal first_number
returns c = record {
  value = let a = c.args in
      rw (
        c.first_refusal.ensures.value,
        c.first_refusal-later.ensures.value,
        c.first_refusal-pads.ensures.value,
        c.first_refusal-chain.ensures.value,
        c.first_refusal-pairs.ensures.value,
        c.first_refusal-last.ensures.value,
        c.kind_stage-kind.ensures.value,
        c.pair_stage-times.ensures.value,
        c.pair_stage-rise.ensures.value,
        c.count_number-count.ensures.value,
        c.pose_stage-padded.ensures.value,
        c.pose_stage-affine.ensures.value,
        c.pose_stage-finite.ensures.value,
        poses-length a.poses.now,
        first-only (kind_stage a.rigid (Poses-of_lists a.poses.now)),
      );
}
