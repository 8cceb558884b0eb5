-- `pair_parts` meets its contract: the first that is refused chooses the case.
use Rattle.std.proofs.lemmas.Result.{err_from_is_err_and}
use Rattle.refusal.proofs.Number.{number-tested}
use Rattle.animated_transform.specs.New.{AnimatedTransform-from_poses}
use Rattle.animated_transform.proofs.pair_parts.Goals as goal

pub returns-in_err-a : goal.returns-in_err-a
unfolding AnimatedTransform-from_poses
returns-in_err-a c =
    let gave = err_from_is_err_and c.from_residual.result c.from_residual.ensures.1 in
    record {
      value = rw (
        gave.1,
        gave.2,
        ← c.to_rows-m0.ensures.value,
        ← c.in_err-a.ensures.value,
        number-tested,
        number-tested,
        number-tested,
      );
    }

pub returns-in_err-b : goal.returns-in_err-b
unfolding AnimatedTransform-from_poses
returns-in_err-b c =
    let gave = err_from_is_err_and c.from_residual-in_err-b.result c.from_residual-in_err-b.ensures.1 in
    record {
      value = rw (
        gave.1,
        gave.2,
        ← c.to_rows-m0.ensures.value,
        ← c.to_rows-m1.ensures.value,
        ← c.in_ok-a.ensures.value,
        ← c.in_err-b.ensures.value,
        number-tested,
        number-tested,
      );
    }

pub returns-in_err-p : goal.returns-in_err-p
unfolding AnimatedTransform-from_poses
returns-in_err-p c =
    let gave = err_from_is_err_and c.from_residual-in_err-p.result c.from_residual-in_err-p.ensures.1 in
    record {
      value = rw (
        gave.1,
        gave.2,
        ← c.to_rows-m0.ensures.value,
        ← c.to_rows-m1.ensures.value,
        ← c.in_ok-a.ensures.value,
        ← c.in_ok-b.ensures.value,
        ← c.in_err-p.ensures.value,
        number-tested,
        number-tested,
      );
    }

pub returns-in_err-q : goal.returns-in_err-q
unfolding AnimatedTransform-from_poses
returns-in_err-q c =
    let gave = err_from_is_err_and c.from_residual-in_err-q.result c.from_residual-in_err-q.ensures.1 in
    record {
      value = rw (
        gave.1,
        gave.2,
        ← c.to_rows-m0.ensures.value,
        ← c.to_rows-m1.ensures.value,
        ← c.in_ok-a.ensures.value,
        ← c.in_ok-b.ensures.value,
        ← c.in_ok-p.ensures.value,
        ← c.in_err-q.ensures.value,
        number-tested,
      );
    }

pub returns : goal.returns
unfolding AnimatedTransform-from_poses
returns c = record {
  value = rw (
    ← c.to_rows-m0.ensures.value,
    ← c.to_rows-m1.ensures.value,
    ← c.in_ok-a.ensures.value,
    ← c.in_ok-b.ensures.value,
    ← c.in_ok-p.ensures.value,
    ← c.in_ok-q.ensures.value,
  );
}
