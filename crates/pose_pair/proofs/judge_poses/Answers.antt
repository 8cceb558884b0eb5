-- `judge_poses` meets its contract: its tests are the definition's.
use Rattle.pose_pair.specs.Pose.{poses_refusal}
use Rattle.pose_pair.proofs.judge_poses.Goals as goal

pub returns-then-not-finite : goal.returns-then-not-finite
unfolding poses_refusal
returns-then-not-finite c = record { value = rw (rw (c.is_finite.ensures.value, c.is_finite-2.ensures.value) at c.if-not-finite.true) }

pub returns-then-not-affine : goal.returns-then-not-affine
unfolding poses_refusal
returns-then-not-affine c = record {
  value = rw (
    rw (c.is_finite.ensures.value, c.is_finite-2.ensures.value) at c.if-not-finite.false,
    rw (c.is_affine.ensures.value, c.is_affine-2.ensures.value) at c.if-not-affine.true,
  );
}

pub returns-then-not-padded : goal.returns-then-not-padded
unfolding poses_refusal
returns-then-not-padded c = record {
  value = rw (
    rw (c.is_finite.ensures.value, c.is_finite-2.ensures.value) at c.if-not-finite.false,
    rw (c.is_affine.ensures.value, c.is_affine-2.ensures.value) at c.if-not-affine.false,
    rw (c.is_padded.ensures.value, c.is_padded-2.ensures.value) at c.if-not-padded.true,
  );
}

pub returns : goal.returns
unfolding poses_refusal
returns c = record {
  value = rw (
    rw (c.is_finite.ensures.value, c.is_finite-2.ensures.value) at c.if-not-finite.false,
    rw (c.is_affine.ensures.value, c.is_affine-2.ensures.value) at c.if-not-affine.false,
    rw (c.is_padded.ensures.value, c.is_padded-2.ensures.value) at c.if-not-padded.false,
  )
      c.judge_times.ensures.value;
}
