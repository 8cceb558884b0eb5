-- `move_number` meets its contract.
use mathlib.Core.Path.{ap, ◌∙◌}
use Rattle.animated_transform.specs.New.{AnimatedTransformAnswer}
use Rattle.chain_number.proofs.move_number.Goals as goal

pub returns-in-Ok : goal.returns-in-Ok
returns-in-Ok c = record {
  value = ap (λ (a : AnimatedTransformAnswer). a.refusal) (rw (c.pose-2.ensures.value, c.pose.ensures.value) at c.in-Ok.ensures.value);
}

pub returns-in-Err : goal.returns-in-Err
returns-in-Err c = record {
  value = c.number.ensures.value
      ∙ ap (λ (a : AnimatedTransformAnswer). a.refusal) (rw (c.pose-2.ensures.value, c.pose.ensures.value) at c.in-Err.ensures.value);
}
