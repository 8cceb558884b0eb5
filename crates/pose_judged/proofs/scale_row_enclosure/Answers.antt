-- `scale_row_enclosure` meets its contract: its calls are the formula's operations in working order, up to the first that is refused.
use mathlib.Core.List.{[], ◌∷◌, ◌++◌}
use Rattle.pose_steps.proofs.refusal.Outcome.{handed-on}
use Rattle.pose_steps.specs.Stages.{scale_row_stage}
use Rattle.pose_steps.specs.Enclose.{IntervalRow-three, Pose-enclose_scale_row}
use Rattle.pose_judged.proofs.Stages.{row-stage}
use Rattle.pose_judged.proofs.scale_row_enclosure.Goals as goal

pub returns-in_err-c0 : goal.returns-in_err-c0
unfolding Pose-enclose_scale_row
returns-in_err-c0 c = record {
  value = rw (
    handed-on _ _ c.from_residual.ensures,
    row-stage scale_row_stage (IntervalRow-three c.args.s0 ++ IntervalRow-three c.args.s1 ++ c.args.dt ∷ []),
    ← c.in_err-c0.ensures.value,
  );
}

pub returns-in_err-c1 : goal.returns-in_err-c1
unfolding Pose-enclose_scale_row
returns-in_err-c1 c = record {
  value = rw (
    handed-on _ _ c.from_residual-in_err-c1.ensures,
    row-stage scale_row_stage (IntervalRow-three c.args.s0 ++ IntervalRow-three c.args.s1 ++ c.args.dt ∷ []),
    ← c.in_ok-c0.ensures.value,
    ← c.in_err-c1.ensures.value,
  );
}

pub returns-in_err-c2 : goal.returns-in_err-c2
unfolding Pose-enclose_scale_row
returns-in_err-c2 c = record {
  value = rw (
    handed-on _ _ c.from_residual-in_err-c2.ensures,
    row-stage scale_row_stage (IntervalRow-three c.args.s0 ++ IntervalRow-three c.args.s1 ++ c.args.dt ∷ []),
    ← c.in_ok-c0.ensures.value,
    ← c.in_ok-c1.ensures.value,
    ← c.in_err-c2.ensures.value,
  );
}

pub returns : goal.returns
unfolding Pose-enclose_scale_row
returns c = record {
  value = rw (
    row-stage scale_row_stage (IntervalRow-three c.args.s0 ++ IntervalRow-three c.args.s1 ++ c.args.dt ∷ []),
    ← c.in_ok-c0.ensures.value,
    ← c.in_ok-c1.ensures.value,
    ← c.in_ok-c2.ensures.value,
  );
}
