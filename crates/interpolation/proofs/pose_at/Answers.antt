-- `pose_at` meets its contract: translation and scale are the stages' (`translation-same`, `scale-by-same`).
use Rattle.pose_parts.proofs.pose_steps.Composition.{translation-same, scale-by-same}
use Rattle.interpolation.specs.Interpolate.{AnimatedTransform-pose_at}
use borrow.Author.Rules.{rules}
use Rattle.interpolation.proofs.pose_at.Goals as goal

pub returns : goal.returns
unfolding AnimatedTransform-pose_at
returns c = record { value = rw (c.composed.ensures.value, c.scale_by-scale.ensures.value, c.slerp-rotate.ensures.value, c.translation-trans.ensures.value, translation-same _ _ _, scale-by-same _ _ _ _) }
