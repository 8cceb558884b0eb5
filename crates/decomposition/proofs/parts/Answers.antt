-- `parts` meets its contract: what the inverse gives chooses the case.
use Rattle.std.proofs.lemmas.Result.{err_from_is_err_and}
use Rattle.refusal.proofs.Number.{number-tested}
use Rattle.decomposition.specs.Decompose.{parts}
use Rattle.decomposition.proofs.parts.Goals as goal

pub returns-in_err-inverse : goal.returns-in_err-inverse
unfolding parts
returns-in_err-inverse c =
    let gave = err_from_is_err_and c.from_residual.result c.from_residual.ensures.1 in
    record { value = rw (gave.1, gave.2, ← c.in_err-inverse.ensures.value, number-tested) }

pub returns : goal.returns
unfolding parts
returns c = record {
  value = rw (← c.in_ok-inverse.ensures.value, ← c.quaternion_from_matrix.ensures.value, ← c.scale_by.ensures.value) c.judged.ensures.value;
}
