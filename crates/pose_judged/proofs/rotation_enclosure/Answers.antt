-- `rotation_enclosure` meets its contract: its calls are the formula's operations in working order, up to the first that is refused.
use Rattle.pose_steps.proofs.refusal.Outcome.{handed-on}
use Rattle.pose_judged.proofs.Stages.{rotation-steps}
use Rattle.pose_judged.proofs.rotation_enclosure.Goals as goal

pub returns-in_err-p : goal.returns-in_err-p
returns-in_err-p c = record {
  value = rw (
    handed-on _ _ c.from_residual.ensures,
    rotation-steps c.args.q,
    ← c.in_err-p.ensures.value,
  );
}

pub returns-in_err-m00 : goal.returns-in_err-m00
returns-in_err-m00 c = record {
  value = rw (
    handed-on _ _ c.from_residual-in_err-m00.ensures,
    rotation-steps c.args.q,
    ← c.in_ok-p.ensures.value,
    ← c.in_err-m00.ensures.value,
  );
}

pub returns-in_err-m01 : goal.returns-in_err-m01
returns-in_err-m01 c = record {
  value = rw (
    handed-on _ _ c.from_residual-in_err-m01.ensures,
    rotation-steps c.args.q,
    ← c.in_ok-p.ensures.value,
    ← c.in_ok-m00.ensures.value,
    ← c.in_err-m01.ensures.value,
  );
}

pub returns-in_err-m02 : goal.returns-in_err-m02
returns-in_err-m02 c = record {
  value = rw (
    handed-on _ _ c.from_residual-in_err-m02.ensures,
    rotation-steps c.args.q,
    ← c.in_ok-p.ensures.value,
    ← c.in_ok-m00.ensures.value,
    ← c.in_ok-m01.ensures.value,
    ← c.in_err-m02.ensures.value,
  );
}

pub returns-in_err-m10 : goal.returns-in_err-m10
returns-in_err-m10 c = record {
  value = rw (
    handed-on _ _ c.from_residual-in_err-m10.ensures,
    rotation-steps c.args.q,
    ← c.in_ok-p.ensures.value,
    ← c.in_ok-m00.ensures.value,
    ← c.in_ok-m01.ensures.value,
    ← c.in_ok-m02.ensures.value,
    ← c.in_err-m10.ensures.value,
  );
}

pub returns-in_err-m11 : goal.returns-in_err-m11
returns-in_err-m11 c = record {
  value = rw (
    handed-on _ _ c.from_residual-in_err-m11.ensures,
    rotation-steps c.args.q,
    ← c.in_ok-p.ensures.value,
    ← c.in_ok-m00.ensures.value,
    ← c.in_ok-m01.ensures.value,
    ← c.in_ok-m02.ensures.value,
    ← c.in_ok-m10.ensures.value,
    ← c.in_err-m11.ensures.value,
  );
}

pub returns-in_err-m12 : goal.returns-in_err-m12
returns-in_err-m12 c = record {
  value = rw (
    handed-on _ _ c.from_residual-in_err-m12.ensures,
    rotation-steps c.args.q,
    ← c.in_ok-p.ensures.value,
    ← c.in_ok-m00.ensures.value,
    ← c.in_ok-m01.ensures.value,
    ← c.in_ok-m02.ensures.value,
    ← c.in_ok-m10.ensures.value,
    ← c.in_ok-m11.ensures.value,
    ← c.in_err-m12.ensures.value,
  );
}

pub returns-in_err-m20 : goal.returns-in_err-m20
returns-in_err-m20 c = record {
  value = rw (
    handed-on _ _ c.from_residual-in_err-m20.ensures,
    rotation-steps c.args.q,
    ← c.in_ok-p.ensures.value,
    ← c.in_ok-m00.ensures.value,
    ← c.in_ok-m01.ensures.value,
    ← c.in_ok-m02.ensures.value,
    ← c.in_ok-m10.ensures.value,
    ← c.in_ok-m11.ensures.value,
    ← c.in_ok-m12.ensures.value,
    ← c.in_err-m20.ensures.value,
  );
}

pub returns-in_err-m21 : goal.returns-in_err-m21
returns-in_err-m21 c = record {
  value = rw (
    handed-on _ _ c.from_residual-in_err-m21.ensures,
    rotation-steps c.args.q,
    ← c.in_ok-p.ensures.value,
    ← c.in_ok-m00.ensures.value,
    ← c.in_ok-m01.ensures.value,
    ← c.in_ok-m02.ensures.value,
    ← c.in_ok-m10.ensures.value,
    ← c.in_ok-m11.ensures.value,
    ← c.in_ok-m12.ensures.value,
    ← c.in_ok-m20.ensures.value,
    ← c.in_err-m21.ensures.value,
  );
}

pub returns-in_err-m22 : goal.returns-in_err-m22
returns-in_err-m22 c = record {
  value = rw (
    handed-on _ _ c.from_residual-in_err-m22.ensures,
    rotation-steps c.args.q,
    ← c.in_ok-p.ensures.value,
    ← c.in_ok-m00.ensures.value,
    ← c.in_ok-m01.ensures.value,
    ← c.in_ok-m02.ensures.value,
    ← c.in_ok-m10.ensures.value,
    ← c.in_ok-m11.ensures.value,
    ← c.in_ok-m12.ensures.value,
    ← c.in_ok-m20.ensures.value,
    ← c.in_ok-m21.ensures.value,
    ← c.in_err-m22.ensures.value,
  );
}

pub returns : goal.returns
returns c = record {
  value = rw (
    rotation-steps c.args.q,
    ← c.in_ok-p.ensures.value,
    ← c.in_ok-m00.ensures.value,
    ← c.in_ok-m01.ensures.value,
    ← c.in_ok-m02.ensures.value,
    ← c.in_ok-m10.ensures.value,
    ← c.in_ok-m11.ensures.value,
    ← c.in_ok-m12.ensures.value,
    ← c.in_ok-m20.ensures.value,
    ← c.in_ok-m21.ensures.value,
    ← c.in_ok-m22.ensures.value,
  );
}
