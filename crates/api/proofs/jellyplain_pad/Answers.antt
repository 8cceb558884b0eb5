-- `jellyplain_pad` meets its contract: the pad query of the move in the rows, which is the move's own where it was built (`pad-kept`).
use Rattle.animated_transform.specs.declared.AnimatedTransform.{AnimatedTransform}
use Rattle.pad_query.proofs.Kept.{pad-kept}
use borrow.Author.Rules.{rules}
use Rattle.api.proofs.jellyplain_pad.Goals as goal

pub returns : goal.returns
returns c = let a = c.args in let asked = c.pad in record { refusal = rw (c.put_pad.ensures.refusal, asked.ensures.value); left = rw (c.put_pad.ensures.left, asked.ensures.value); built = λ (m : AnimatedTransform) e. rw e (pad-kept m a.time) }
