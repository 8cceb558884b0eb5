-- `pose_number` meets its contract.
use borrow.Author.Tests.{eq-eqb, ne_eqb}
use Rattle.motion_chain.specs.Chain.{Pose-number}
use Rattle.chain_poses.proofs.pose_number.Goals as goal

pub returns-then-is_finite : goal.returns-then-is_finite
unfolding Pose-number
returns-then-is_finite c = record { value = rw (eq-eqb _ 1 c.if-k-eq1.true, ← c.is_finite.ensures.value, c.if-is_finite.true) }

pub returns-then-k-eq1 : goal.returns-then-k-eq1
unfolding Pose-number
returns-then-k-eq1 c = record { value = rw (eq-eqb _ 1 c.if-k-eq1.true, ← c.is_finite.ensures.value, c.if-is_finite.false) }

pub returns-then-is_affine : goal.returns-then-is_affine
unfolding Pose-number
returns-then-is_affine c = record { value = rw (ne_eqb _ 1 c.if-k-eq1.false, eq-eqb _ 2 c.if-k-eq2.true, ← c.is_affine.ensures.value, c.if-is_affine.true) }

pub returns-then-k-eq2 : goal.returns-then-k-eq2
unfolding Pose-number
returns-then-k-eq2 c = record { value = rw (ne_eqb _ 1 c.if-k-eq1.false, eq-eqb _ 2 c.if-k-eq2.true, ← c.is_affine.ensures.value, c.if-is_affine.false) }

pub returns-then-is_padded : goal.returns-then-is_padded
unfolding Pose-number
returns-then-is_padded c = record {
  value = rw (
    ne_eqb _ 1 c.if-k-eq1.false,
    ne_eqb _ 2 c.if-k-eq2.false,
    eq-eqb _ 16 c.if-k-eq16.true,
    ← c.is_padded.ensures.value,
    c.if-is_padded.true,
  );
}

pub returns-then-k-eq16 : goal.returns-then-k-eq16
unfolding Pose-number
returns-then-k-eq16 c = record {
  value = rw (
    ne_eqb _ 1 c.if-k-eq1.false,
    ne_eqb _ 2 c.if-k-eq2.false,
    eq-eqb _ 16 c.if-k-eq16.true,
    ← c.is_padded.ensures.value,
    c.if-is_padded.false,
  );
}

pub returns-in-Ok : goal.returns-in-Ok
unfolding Pose-number
returns-in-Ok c = record {
  value = rw (ne_eqb _ 1 c.if-k-eq1.false, ne_eqb _ 2 c.if-k-eq2.false, ne_eqb _ 16 c.if-k-eq16.false, eq-eqb _ 17 c.if-k-eq17.true) c.in-Ok.ensures.value;
}

pub returns-in-Err : goal.returns-in-Err
unfolding Pose-number
returns-in-Err c = record {
  value = rw (ne_eqb _ 1 c.if-k-eq1.false, ne_eqb _ 2 c.if-k-eq2.false, ne_eqb _ 16 c.if-k-eq16.false, eq-eqb _ 17 c.if-k-eq17.true) (rw (← c.number.ensures.value) at c.in-Err.ensures.value);
}

pub returns : goal.returns
unfolding Pose-number
returns c = record { value = rw (ne_eqb _ 1 c.if-k-eq1.false, ne_eqb _ 2 c.if-k-eq2.false, ne_eqb _ 16 c.if-k-eq16.false, ne_eqb _ 17 c.if-k-eq17.false) }
