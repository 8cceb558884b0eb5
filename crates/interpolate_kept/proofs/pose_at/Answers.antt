-- `pose_at` meets its contract: translation and scale are the stages' (`translation-same`, `scale-by-same`).
use Rattle.pose_slerp.proofs.pose_steps.Composition.{translation-same, scale-by-same}
use Rattle.interpolation.specs.Interpolate.{Pose-transform}
use Rattle.motion_rows.specs.Rows.{AnimatedTransform-from_rows, PoseConstants-from_rows}
use borrow.Author.Rules.{rules}
use Rattle.interpolate_kept.proofs.pose_at.Goals as goal

pub returns : goal.returns
unfolding Pose-transform AnimatedTransform-from_rows PoseConstants-from_rows
returns c = record {
  value = rw (
    c.composed.ensures.value,
    c.scale_by-scale.ensures.value,
    c.matrix_at-2.ensures.value,
    c.matrix_at.ensures.value,
    c.slerp-rotate.ensures.value,
    c.translation-trans.ensures.value,
    c.constants_from_rows-a.ensures.value,
    translation-same _ _ _,
    scale-by-same _ _ _ _,
  );
}
