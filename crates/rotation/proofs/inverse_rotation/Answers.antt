-- `inverse_rotation` meets its contract: its operations are the definition's.
use mathlib.Core.Path.{refl}
use Rattle.rotation.specs.FromQuaternion.{inverse_rotation}
use Rattle.rotation.proofs.inverse_rotation.Goals as goal

pub returns : goal.returns
unfolding inverse_rotation
returns c = record { value = refl }
