-- `slerp_far_enclosure` meets its contract: its calls are the formula's operations in working order, up to the first that is refused.
use Rattle.pose_steps.proofs.refusal.Outcome.{handed-on}
use Rattle.pose_judged.proofs.Stages.{far-steps}
use Rattle.pose_judged.proofs.slerp_far_enclosure.Goals as goal

pub returns-in_err-thetap : goal.returns-in_err-thetap
returns-in_err-thetap c = record {
  value = rw (
    handed-on _ _ c.from_residual.ensures,
    far-steps c.args.q1 c.args.q2 c.args.cos_theta c.args.theta c.args.t,
    ← c.in_err-thetap.ensures.value,
  );
}

pub returns-in_err-px : goal.returns-in_err-px
returns-in_err-px c = record {
  value = rw (
    handed-on _ _ c.from_residual-in_err-px.ensures,
    far-steps c.args.q1 c.args.q2 c.args.cos_theta c.args.theta c.args.t,
    ← c.in_ok-thetap.ensures.value,
    ← c.in_err-px.ensures.value,
  );
}

pub returns-in_err-py : goal.returns-in_err-py
returns-in_err-py c = record {
  value = rw (
    handed-on _ _ c.from_residual-in_err-py.ensures,
    far-steps c.args.q1 c.args.q2 c.args.cos_theta c.args.theta c.args.t,
    ← c.in_ok-thetap.ensures.value,
    ← c.in_ok-px.ensures.value,
    ← c.in_err-py.ensures.value,
  );
}

pub returns-in_err-pz : goal.returns-in_err-pz
returns-in_err-pz c = record {
  value = rw (
    handed-on _ _ c.from_residual-in_err-pz.ensures,
    far-steps c.args.q1 c.args.q2 c.args.cos_theta c.args.theta c.args.t,
    ← c.in_ok-thetap.ensures.value,
    ← c.in_ok-px.ensures.value,
    ← c.in_ok-py.ensures.value,
    ← c.in_err-pz.ensures.value,
  );
}

pub returns-in_err-pw : goal.returns-in_err-pw
returns-in_err-pw c = record {
  value = rw (
    handed-on _ _ c.from_residual-in_err-pw.ensures,
    far-steps c.args.q1 c.args.q2 c.args.cos_theta c.args.theta c.args.t,
    ← c.in_ok-thetap.ensures.value,
    ← c.in_ok-px.ensures.value,
    ← c.in_ok-py.ensures.value,
    ← c.in_ok-pz.ensures.value,
    ← c.in_err-pw.ensures.value,
  );
}

pub returns-in_err-perp : goal.returns-in_err-perp
returns-in_err-perp c = record {
  value = rw (
    handed-on _ _ c.from_residual-in_err-perp.ensures,
    far-steps c.args.q1 c.args.q2 c.args.cos_theta c.args.theta c.args.t,
    ← c.in_ok-thetap.ensures.value,
    ← c.in_ok-px.ensures.value,
    ← c.in_ok-py.ensures.value,
    ← c.in_ok-pz.ensures.value,
    ← c.in_ok-pw.ensures.value,
    ← c.in_err-perp.ensures.value,
  );
}

pub returns-in_err-at : goal.returns-in_err-at
returns-in_err-at c = record {
  value = rw (
    handed-on _ _ c.from_residual-in_err-at.ensures,
    far-steps c.args.q1 c.args.q2 c.args.cos_theta c.args.theta c.args.t,
    ← c.in_ok-thetap.ensures.value,
    ← c.in_ok-px.ensures.value,
    ← c.in_ok-py.ensures.value,
    ← c.in_ok-pz.ensures.value,
    ← c.in_ok-pw.ensures.value,
    ← c.in_ok-perp.ensures.value,
    ← c.in_err-at.ensures.value,
  );
}

pub returns-in_err-x : goal.returns-in_err-x
returns-in_err-x c = record {
  value = rw (
    handed-on _ _ c.from_residual-in_err-x.ensures,
    far-steps c.args.q1 c.args.q2 c.args.cos_theta c.args.theta c.args.t,
    ← c.in_ok-thetap.ensures.value,
    ← c.in_ok-px.ensures.value,
    ← c.in_ok-py.ensures.value,
    ← c.in_ok-pz.ensures.value,
    ← c.in_ok-pw.ensures.value,
    ← c.in_ok-perp.ensures.value,
    ← c.in_ok-at.ensures.value,
    ← c.in_err-x.ensures.value,
  );
}

pub returns-in_err-y : goal.returns-in_err-y
returns-in_err-y c = record {
  value = rw (
    handed-on _ _ c.from_residual-in_err-y.ensures,
    far-steps c.args.q1 c.args.q2 c.args.cos_theta c.args.theta c.args.t,
    ← c.in_ok-thetap.ensures.value,
    ← c.in_ok-px.ensures.value,
    ← c.in_ok-py.ensures.value,
    ← c.in_ok-pz.ensures.value,
    ← c.in_ok-pw.ensures.value,
    ← c.in_ok-perp.ensures.value,
    ← c.in_ok-at.ensures.value,
    ← c.in_ok-x.ensures.value,
    ← c.in_err-y.ensures.value,
  );
}

pub returns-in_err-z : goal.returns-in_err-z
returns-in_err-z c = record {
  value = rw (
    handed-on _ _ c.from_residual-in_err-z.ensures,
    far-steps c.args.q1 c.args.q2 c.args.cos_theta c.args.theta c.args.t,
    ← c.in_ok-thetap.ensures.value,
    ← c.in_ok-px.ensures.value,
    ← c.in_ok-py.ensures.value,
    ← c.in_ok-pz.ensures.value,
    ← c.in_ok-pw.ensures.value,
    ← c.in_ok-perp.ensures.value,
    ← c.in_ok-at.ensures.value,
    ← c.in_ok-x.ensures.value,
    ← c.in_ok-y.ensures.value,
    ← c.in_err-z.ensures.value,
  );
}

pub returns-in_err-w : goal.returns-in_err-w
returns-in_err-w c = record {
  value = rw (
    handed-on _ _ c.from_residual-in_err-w.ensures,
    far-steps c.args.q1 c.args.q2 c.args.cos_theta c.args.theta c.args.t,
    ← c.in_ok-thetap.ensures.value,
    ← c.in_ok-px.ensures.value,
    ← c.in_ok-py.ensures.value,
    ← c.in_ok-pz.ensures.value,
    ← c.in_ok-pw.ensures.value,
    ← c.in_ok-perp.ensures.value,
    ← c.in_ok-at.ensures.value,
    ← c.in_ok-x.ensures.value,
    ← c.in_ok-y.ensures.value,
    ← c.in_ok-z.ensures.value,
    ← c.in_err-w.ensures.value,
  );
}

pub returns : goal.returns
returns c = record {
  value = rw (
    far-steps c.args.q1 c.args.q2 c.args.cos_theta c.args.theta c.args.t,
    ← c.in_ok-thetap.ensures.value,
    ← c.in_ok-px.ensures.value,
    ← c.in_ok-py.ensures.value,
    ← c.in_ok-pz.ensures.value,
    ← c.in_ok-pw.ensures.value,
    ← c.in_ok-perp.ensures.value,
    ← c.in_ok-at.ensures.value,
    ← c.in_ok-x.ensures.value,
    ← c.in_ok-y.ensures.value,
    ← c.in_ok-z.ensures.value,
    ← c.in_ok-w.ensures.value,
  );
}
