-- `jellyplain_interpolate` meets its contract: the transform of the move in the rows, which is the move's own where it was built (`interpolate-kept`).
use Rattle.animated_transform.specs.declared.AnimatedTransform.{AnimatedTransform}
use Rattle.api.proofs.Interpolate.{kept-interpolate}
use borrow.Author.Rules.{rules}
use Rattle.api.proofs.jellyplain_interpolate.Goals as goal

pub returns : goal.returns
returns c = let a = c.args in record { refusal = rw (c.put_transform.ensures.refusal, c.interpolate.ensures.value); left = rw (c.put_transform.ensures.left, c.interpolate.ensures.value); built = λ (m : AnimatedTransform). kept-interpolate a.motion.now m a.time }
