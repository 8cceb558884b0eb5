-- `is_ordered` meets its contract: the code's test is the definition's.
use mathlib.Core.Path.{refl}
use lib.Ieee.{lt}
use Rattle.bounds_query.specs.Query.{Bounds3f-is_ordered}
use Rattle.bounds_query.proofs.is_ordered.Goals as goal

pub returns : goal.returns
unfolding lt Bounds3f-is_ordered
returns c = record { value = refl }
