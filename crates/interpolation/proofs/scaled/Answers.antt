-- `scaled` meets its contract: what the scale's inverse gives chooses the case.
use Rattle.std.proofs.lemmas.Result.{err_from_is_err_and}
use Rattle.refusal.proofs.Number.{number-tested}
use Rattle.interpolation.specs.Interpolate.{scaled}
use Rattle.interpolation.proofs.scaled.Goals as goal

pub returns-in_err-s : goal.returns-in_err-s
unfolding scaled
returns-in_err-s c =
    let gave = err_from_is_err_and c.from_residual.result c.from_residual.ensures.1 in
    record { value = rw (gave.1, gave.2, ← c.to_rows.ensures.value, ← c.in_err-s.ensures.value, number-tested) }

pub returns : goal.returns
unfolding scaled
returns c = record { value = rw (← c.to_rows.ensures.value, ← c.in_ok-s.ensures.value, ← c.mul.ensures) c.judged.ensures.value }
