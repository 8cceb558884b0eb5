-- `mul_enclosure` meets its contract: row by row, up to the first that is refused.
use Rattle.pose_steps.proofs.refusal.Outcome.{handed-on}
use Rattle.pose_judged.proofs.Stages.{mul-steps}
use Rattle.pose_judged.proofs.mul_enclosure.Goals as goal

pub returns-in_err-r0 : goal.returns-in_err-r0
returns-in_err-r0 c = record {
  value = rw (
    handed-on _ _ c.from_residual.ensures,
    mul-steps c.args.a c.args.b,
    ← c.in_err-r0.ensures.value,
  );
}

pub returns-in_err-r1 : goal.returns-in_err-r1
returns-in_err-r1 c = record {
  value = rw (
    handed-on _ _ c.from_residual-in_err-r1.ensures,
    mul-steps c.args.a c.args.b,
    ← c.in_ok-r0.ensures.value,
    ← c.in_err-r1.ensures.value,
  );
}

pub returns-in_err-r2 : goal.returns-in_err-r2
returns-in_err-r2 c = record {
  value = rw (
    handed-on _ _ c.from_residual-in_err-r2.ensures,
    mul-steps c.args.a c.args.b,
    ← c.in_ok-r0.ensures.value,
    ← c.in_ok-r1.ensures.value,
    ← c.in_err-r2.ensures.value,
  );
}

pub returns : goal.returns
returns c = record {
  value = rw (
    mul-steps c.args.a c.args.b,
    ← c.in_ok-r0.ensures.value,
    ← c.in_ok-r1.ensures.value,
    ← c.in_ok-r2.ensures.value,
  );
}
