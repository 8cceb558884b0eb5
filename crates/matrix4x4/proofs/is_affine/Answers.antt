-- `is_affine` meets its contract: it is the definition, written out.
use mathlib.Core.Path.{refl}
use Rattle.matrix4x4.specs.IsAffine.{Matrix4x4-is_affine}
use Rattle.matrix4x4.proofs.is_affine.Goals as goal

pub returns : goal.returns
unfolding Matrix4x4-is_affine
returns c = record { value = refl }
