-- `slerp_near_enclosure` meets its contract: its calls are the formula's operations in working order, up to the first that is refused.
use mathlib.Core.List.{[], ◌∷◌, ◌++◌}
use Rattle.pose_steps.proofs.refusal.Outcome.{handed-on}
use Rattle.pose_steps.specs.Stages.{slerp_near_stage}
use Rattle.pose_steps.specs.Enclose.{IntervalQuaternion-list, Pose-enclose_slerp_near}
use Rattle.pose_judged.proofs.Stages.{quaternion-stage}
use Rattle.pose_judged.proofs.slerp_near_enclosure.Goals as goal

pub returns-in_err-s : goal.returns-in_err-s
unfolding Pose-enclose_slerp_near
returns-in_err-s c = record {
  value = rw (
    handed-on _ _ c.from_residual.ensures,
    quaternion-stage slerp_near_stage (IntervalQuaternion-list c.args.q1 ++ IntervalQuaternion-list c.args.q2 ++ c.args.t ∷ []),
    ← c.in_err-s.ensures.value,
  );
}

pub returns-in_err-x : goal.returns-in_err-x
unfolding Pose-enclose_slerp_near
returns-in_err-x c = record {
  value = rw (
    handed-on _ _ c.from_residual-in_err-x.ensures,
    quaternion-stage slerp_near_stage (IntervalQuaternion-list c.args.q1 ++ IntervalQuaternion-list c.args.q2 ++ c.args.t ∷ []),
    ← c.in_ok-s.ensures.value,
    ← c.in_err-x.ensures.value,
  );
}

pub returns-in_err-y : goal.returns-in_err-y
unfolding Pose-enclose_slerp_near
returns-in_err-y c = record {
  value = rw (
    handed-on _ _ c.from_residual-in_err-y.ensures,
    quaternion-stage slerp_near_stage (IntervalQuaternion-list c.args.q1 ++ IntervalQuaternion-list c.args.q2 ++ c.args.t ∷ []),
    ← c.in_ok-s.ensures.value,
    ← c.in_ok-x.ensures.value,
    ← c.in_err-y.ensures.value,
  );
}

pub returns-in_err-z : goal.returns-in_err-z
unfolding Pose-enclose_slerp_near
returns-in_err-z c = record {
  value = rw (
    handed-on _ _ c.from_residual-in_err-z.ensures,
    quaternion-stage slerp_near_stage (IntervalQuaternion-list c.args.q1 ++ IntervalQuaternion-list c.args.q2 ++ c.args.t ∷ []),
    ← c.in_ok-s.ensures.value,
    ← c.in_ok-x.ensures.value,
    ← c.in_ok-y.ensures.value,
    ← c.in_err-z.ensures.value,
  );
}

pub returns-in_err-w : goal.returns-in_err-w
unfolding Pose-enclose_slerp_near
returns-in_err-w c = record {
  value = rw (
    handed-on _ _ c.from_residual-in_err-w.ensures,
    quaternion-stage slerp_near_stage (IntervalQuaternion-list c.args.q1 ++ IntervalQuaternion-list c.args.q2 ++ c.args.t ∷ []),
    ← c.in_ok-s.ensures.value,
    ← c.in_ok-x.ensures.value,
    ← c.in_ok-y.ensures.value,
    ← c.in_ok-z.ensures.value,
    ← c.in_err-w.ensures.value,
  );
}

pub returns : goal.returns
unfolding Pose-enclose_slerp_near
returns c = record {
  value = rw (
    c.normalized.ensures.value,
    quaternion-stage slerp_near_stage (IntervalQuaternion-list c.args.q1 ++ IntervalQuaternion-list c.args.q2 ++ c.args.t ∷ []),
    ← c.in_ok-s.ensures.value,
    ← c.in_ok-x.ensures.value,
    ← c.in_ok-y.ensures.value,
    ← c.in_ok-z.ensures.value,
    ← c.in_ok-w.ensures.value,
  );
}
