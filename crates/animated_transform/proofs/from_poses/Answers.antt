-- `from_poses` meets its contract: the parts that are refused, or what they lead to.
use mathlib.Core.Path.{◌∙◌}
use Rattle.std.proofs.lemmas.Result.{err_from_is_err_and}
use Rattle.animated_transform.proofs.from_poses.Goals as goal

pub returns-in_err-parts : goal.returns-in_err-parts
returns-in_err-parts c =
    let gave = err_from_is_err_and c.from_residual.result c.from_residual.ensures.1 in
    record { value = rw (gave.1, gave.2) c.in_err-parts.ensures.value }

pub returns : goal.returns
returns c = record { value = c.from_parts.ensures.value ∙ c.in_ok-parts.ensures.value }
