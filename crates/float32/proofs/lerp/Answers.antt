-- `lerp` meets its contract: its four operations are the definition's.
use mathlib.Core.Path.{refl}
use Rattle.float32.specs.Lerp.{lerp}
use Rattle.float32.proofs.lerp.Goals as goal

pub returns : goal.returns
unfolding lerp
returns c = record { value = refl }
