-- `from_matrix` meets its contract: what the inverse gives chooses the case.
use Rattle.std.proofs.lemmas.Result.{err_from_is_err_and}
use Rattle.refusal.proofs.Number.{number-tested}
use Rattle.transform.specs.Transform.{Transform-from_matrix}
use Rattle.transform.proofs.Transform.from_matrix.Goals as goal

pub returns-in_err-inverse : goal.returns-in_err-inverse
unfolding Transform-from_matrix
returns-in_err-inverse c =
    let gave = err_from_is_err_and c.from_residual.result c.from_residual.ensures.1 in
    record { value = rw (gave.1, gave.2, ← c.in_err-inverse.ensures.value, number-tested) }

pub returns : goal.returns
unfolding Transform-from_matrix
returns c = record { value = rw (← c.in_ok-inverse.ensures.value, c.from_matrices.ensures.value) }
