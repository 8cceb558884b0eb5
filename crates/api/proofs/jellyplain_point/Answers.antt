-- `jellyplain_point` meets its contract: the point query of the move in the rows, which is the move's own where it was built (`kept-point`).
use Rattle.file_reader.specs.bounds3.List.{Point3f-of_list}
use Rattle.animated_transform.specs.declared.AnimatedTransform.{AnimatedTransform}
use Rattle.api.proofs.Kept.{kept-point}
use borrow.Author.Rules.{rules}
use Rattle.api.proofs.jellyplain_point.Goals as goal

pub returns : goal.returns
returns c = let a = c.args in record {
  refusal = rw (c.put_point.ensures.refusal, c.transform_point.ensures.value, c.point.ensures.value);
  left = rw (
    c.put_point.ensures.left,
    c.transform_point.ensures.value,
    c.point.ensures.value,
  );
  built = λ (m : AnimatedTransform). kept-point a.motion.now m a.time (Point3f-of_list a.p.now);
}
