-- `replace` meets its contract: each call selects an entry.
use Rattle.matrix_inverse.specs.Eliminate.{replace}
use Rattle.matrix_inverse.proofs.replace.Goals as goal

pub returns : goal.returns
unfolding replace
returns c = record { value = rw (c.select.ensures.value, c.select-2.ensures.value, c.select-3.ensures.value, c.select-4.ensures.value) }
