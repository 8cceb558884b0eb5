-- `dt` meets its contract: one expression.
use mathlib.Core.Path.{refl}
use lib.Ieee.{div}
use Rattle.unit_interval.specs.Unit.{dt}
use Rattle.unit_interval.proofs.dt.Goals as goal

pub returns : goal.returns
unfolding div dt
returns c = record { value = refl }
