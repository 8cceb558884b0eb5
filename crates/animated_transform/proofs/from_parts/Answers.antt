-- `from_parts` meets its contract: what is judged of the parts chooses the case.
use Rattle.std.proofs.lemmas.Result.{err_from_is_err_and}
use mathlib.Core.Path.{◌≡◌}
use mathlib.Core.Bool.{not}
use Rattle.refusal.proofs.Number.{number-tested}
use Rattle.transform.specs.Transform.{Transform-eq}
use Rattle.animated_transform.specs.New.{AnimatedTransform-from_parts}
use Rattle.animated_transform.proofs.from_parts.Goals as goal

pub returns-in_err-judge_dots : goal.returns-in_err-judge_dots
unfolding AnimatedTransform-from_parts
returns-in_err-judge_dots c =
    let gave = err_from_is_err_and c.from_residual.result c.from_residual.ensures.1 in
    record {
      value = rw (
        gave.1,
        gave.2,
        ← c.flip-r1.ensures.value,
        ← c.dot-cos_theta.ensures.value,
        ← c.dot.ensures.value,
        ← c.in_err-judge_dots.ensures.value,
        number-tested,
        number-tested,
      );
    }

pub returns-in_err-coefficients : goal.returns-in_err-coefficients
unfolding AnimatedTransform-from_parts
returns-in_err-coefficients c =
    let gave = err_from_is_err_and c.from_residual-in_err-coefficients.result c.from_residual-in_err-coefficients.ensures.1 in
    record {
      value = rw (
        gave.1,
        gave.2,
        ← c.flip-r1.ensures.value,
        ← c.dot-cos_theta.ensures.value,
        ← c.in_err-coefficients.ensures.value,
        ← c.dot.ensures.value,
        ← c.in_ok-judge_dots.ensures.value,
        number-tested,
      );
    }

pub returns : goal.returns
unfolding AnimatedTransform-from_parts Transform-eq
returns c = record {
  value = let equal : c.ne.result ≡ not (Transform-eq c.args.parts.now.a c.args.parts.now.b) = c.ne.ensures in
      rw (
        ← c.flip-r1.ensures.value,
        ← c.dot-cos_theta.ensures.value,
        ← c.in_ok-coefficients.ensures.value,
        ← c.dot.ensures.value,
        ← c.in_ok-judge_dots.ensures.value,
        ← equal,
      );
}
