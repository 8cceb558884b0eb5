-- `is_quarter_angle` meets its contract by computing.
use mathlib.Core.Path.{refl, sym, subst}
use lib.Dec.{T}
use Rattle.cover_lean.specs.means.Test.{is_quarter_angle}
use Rattle.cover_test.proofs.is_quarter_angle.Goals as goal

pub returns : goal.returns
unfolding is_quarter_angle
returns c = record { value = refl; number = subst T (sym c.well_formed.0.1) tt }
