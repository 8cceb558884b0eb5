-- `ends` meets its contract by computing.
use mathlib.Core.Path.{refl}
use Rattle.cover_groups.specs.means.Groups.{Lanes-ends}
use Rattle.cover_groups.proofs.ends.Goals as goal

pub returns : goal.returns
unfolding Lanes-ends
returns c = record { value = refl }
