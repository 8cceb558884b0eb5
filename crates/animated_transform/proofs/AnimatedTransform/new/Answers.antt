-- `new` meets its contract: what is judged chooses the case; what isn't refused is a built move (`new-built`).
use mathlib.Core.Path.{◌≡◌}
use Rattle.std.proofs.lemmas.Result.{err_from_is_err_and}
use Rattle.refusal.proofs.Number.{number-tested}
use Rattle.animated_transform.specs.New.{AnimatedTransformAnswer-of_result, AnimatedTransform-new}
use Rattle.animated_transform.proofs.Built.{new-built}
use Rattle.animated_transform.proofs.AnimatedTransform.new.Goals as goal

pub returns-in_err-judge_poses : goal.returns-in_err-judge_poses
unfolding AnimatedTransform-new
returns-in_err-judge_poses c =
    let gave = err_from_is_err_and c.from_residual.result c.from_residual.ensures.1 in
    record {
      value = rw (
        gave.1,
        gave.2,
        ← c.in_err-judge_poses.ensures.value,
        number-tested,
        number-tested,
      );
      built = rw gave.1 tt;
    }

pub returns-in_err-judge_kind : goal.returns-in_err-judge_kind
unfolding AnimatedTransform-new
returns-in_err-judge_kind c =
    let gave = err_from_is_err_and c.from_residual-in_err-judge_kind.result c.from_residual-in_err-judge_kind.ensures.1 in
    record {
      value = rw (
        gave.1,
        gave.2,
        ← c.in_ok-judge_poses.ensures.value,
        ← c.in_err-judge_kind.ensures.value,
        number-tested,
        number-tested,
      );
      built = rw gave.1 tt;
    }

pub returns-in_err-judge_kind-2 : goal.returns-in_err-judge_kind-2
unfolding AnimatedTransform-new
returns-in_err-judge_kind-2 c =
    let gave = err_from_is_err_and c.from_residual-in_err-judge_kind-2.result c.from_residual-in_err-judge_kind-2.ensures.1 in
    record {
      value = rw (
        gave.1,
        gave.2,
        ← c.in_ok-judge_poses.ensures.value,
        ← c.in_ok-judge_kind.ensures.value,
        ← c.in_err-judge_kind-2.ensures.value,
        number-tested,
      );
      built = rw gave.1 tt;
    }

pub returns : goal.returns
unfolding AnimatedTransform-new
returns c =
    let value : AnimatedTransformAnswer-of_result c.from_poses.result ≡ AnimatedTransform-new c.args.rigid c.args.start c.args.end = rw (← c.in_ok-judge_poses.ensures.value, ← c.in_ok-judge_kind.ensures.value, ← c.in_ok-judge_kind-2.ensures.value) c.from_poses.ensures.value in
    let start = c.well_formed.1.0.1.1 in
    let end = c.well_formed.1.1.0.1.1 in
    record { value = value; built = new-built c.from_poses.result c.args.rigid c.args.start c.args.end start.0.1 start.1.1.0.1 end.0.1 end.1.1.0.1 value }
