-- `translation_enclosure` meets its contract: its calls are the formula's operations in working order, up to the first that is refused.
use mathlib.Core.List.{[], ◌∷◌, ◌++◌}
use Rattle.pose_steps.proofs.refusal.Outcome.{handed-on}
use Rattle.pose_steps.specs.Stages.{translation_stage}
use Rattle.pose_steps.specs.Enclose.{IntervalVector-list, Pose-enclose_translation}
use Rattle.pose_judged.proofs.Stages.{vector-stage}
use Rattle.pose_judged.proofs.translation_enclosure.Goals as goal

pub returns-in_err-s : goal.returns-in_err-s
unfolding Pose-enclose_translation
returns-in_err-s c = record {
  value = rw (
    handed-on _ _ c.from_residual.ensures,
    vector-stage translation_stage (IntervalVector-list c.args.t0 ++ IntervalVector-list c.args.t1 ++ c.args.dt ∷ []),
    ← c.in_err-s.ensures.value,
  );
}

pub returns-in_err-x : goal.returns-in_err-x
unfolding Pose-enclose_translation
returns-in_err-x c = record {
  value = rw (
    handed-on _ _ c.from_residual-in_err-x.ensures,
    vector-stage translation_stage (IntervalVector-list c.args.t0 ++ IntervalVector-list c.args.t1 ++ c.args.dt ∷ []),
    ← c.in_ok-s.ensures.value,
    ← c.in_err-x.ensures.value,
  );
}

pub returns-in_err-y : goal.returns-in_err-y
unfolding Pose-enclose_translation
returns-in_err-y c = record {
  value = rw (
    handed-on _ _ c.from_residual-in_err-y.ensures,
    vector-stage translation_stage (IntervalVector-list c.args.t0 ++ IntervalVector-list c.args.t1 ++ c.args.dt ∷ []),
    ← c.in_ok-s.ensures.value,
    ← c.in_ok-x.ensures.value,
    ← c.in_err-y.ensures.value,
  );
}

pub returns-in_err-z : goal.returns-in_err-z
unfolding Pose-enclose_translation
returns-in_err-z c = record {
  value = rw (
    handed-on _ _ c.from_residual-in_err-z.ensures,
    vector-stage translation_stage (IntervalVector-list c.args.t0 ++ IntervalVector-list c.args.t1 ++ c.args.dt ∷ []),
    ← c.in_ok-s.ensures.value,
    ← c.in_ok-x.ensures.value,
    ← c.in_ok-y.ensures.value,
    ← c.in_err-z.ensures.value,
  );
}

pub returns : goal.returns
unfolding Pose-enclose_translation
returns c = record {
  value = rw (
    vector-stage translation_stage (IntervalVector-list c.args.t0 ++ IntervalVector-list c.args.t1 ++ c.args.dt ∷ []),
    ← c.in_ok-s.ensures.value,
    ← c.in_ok-x.ensures.value,
    ← c.in_ok-y.ensures.value,
    ← c.in_ok-z.ensures.value,
  );
}
