-- `matrix` meets its contract: the stages in the order of the definition, the last call first.
use Rattle.pose_steps.specs.Pose.{Pose-matrix}
use borrow.Author.Rules.{rules}
use Rattle.pose.proofs.matrix.Goals as goal

pub returns : goal.returns
unfolding Pose-matrix
returns c = record {
  value = rw (
    c.judged.ensures.value,
    c.all_finite-5.ensures.value,
    c.all_finite-4.ensures.value,
    c.all_finite-3.ensures.value,
    c.all_finite-2.ensures.value,
    c.all_finite.ensures.value,
    c.is_finite.ensures.value,
    c.product-last.ensures.value,
    c.product-first.ensures.value,
    c.rotation-rotating.ensures.value,
    c.translation_matrix-translate.ensures.value,
    c.scale_by-scaling.ensures.value,
    c.slerp-rotate.ensures.value,
    c.translation-trans.ensures.value,
  );
}
