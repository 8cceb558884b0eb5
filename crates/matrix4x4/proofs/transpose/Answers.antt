-- `transpose` meets its contract: it is the definition, written out.
use mathlib.Core.Path.{refl}
use Rattle.matrix4x4.specs.Transpose.{Matrix4x4-transpose}
use Rattle.matrix4x4.proofs.transpose.Goals as goal

pub returns : goal.returns
unfolding Matrix4x4-transpose
returns c = record { value = refl }
