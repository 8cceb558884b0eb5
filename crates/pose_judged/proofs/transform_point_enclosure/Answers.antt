-- `transform_point_enclosure` meets its contract: its calls are the formula's operations in working order, up to the first that is refused.
use mathlib.Core.List.{◌++◌}
use Rattle.pose_steps.proofs.refusal.Outcome.{handed-on}
use Rattle.pose_steps.specs.Stages.{transform_point_stage}
use Rattle.pose_steps.specs.Enclose.{IntervalVector-list, IntervalMatrix-list, Pose-enclose_transform_point}
use Rattle.pose_judged.proofs.Stages.{vector-stage}
use Rattle.pose_judged.proofs.transform_point_enclosure.Goals as goal

pub returns-in_err-x : goal.returns-in_err-x
unfolding Pose-enclose_transform_point
returns-in_err-x c = record {
  value = rw (
    handed-on _ _ c.from_residual.ensures,
    vector-stage transform_point_stage (IntervalMatrix-list c.args.a ++ IntervalVector-list c.args.p),
    ← c.in_err-x.ensures.value,
  );
}

pub returns-in_err-y : goal.returns-in_err-y
unfolding Pose-enclose_transform_point
returns-in_err-y c = record {
  value = rw (
    handed-on _ _ c.from_residual-in_err-y.ensures,
    vector-stage transform_point_stage (IntervalMatrix-list c.args.a ++ IntervalVector-list c.args.p),
    ← c.in_ok-x.ensures.value,
    ← c.in_err-y.ensures.value,
  );
}

pub returns-in_err-z : goal.returns-in_err-z
unfolding Pose-enclose_transform_point
returns-in_err-z c = record {
  value = rw (
    handed-on _ _ c.from_residual-in_err-z.ensures,
    vector-stage transform_point_stage (IntervalMatrix-list c.args.a ++ IntervalVector-list c.args.p),
    ← c.in_ok-x.ensures.value,
    ← c.in_ok-y.ensures.value,
    ← c.in_err-z.ensures.value,
  );
}

pub returns : goal.returns
unfolding Pose-enclose_transform_point
returns c = record {
  value = rw (
    vector-stage transform_point_stage (IntervalMatrix-list c.args.a ++ IntervalVector-list c.args.p),
    ← c.in_ok-x.ensures.value,
    ← c.in_ok-y.ensures.value,
    ← c.in_ok-z.ensures.value,
  );
}
