-- What has to unfold for an operation on given matrices to compute, as one group: a case says `unfolding computing`.
use Rattle.std.specs.Float.Ieee.{add, mul, eq, of_bits}
use Rattle.matrix4x4.specs.Transpose.{Matrix4x4-transpose}
use Rattle.matrix4x4.specs.Mul.{Matrix4x4-mul}
use Rattle.matrix4x4.specs.Eq.{Matrix4x4-eq}
use Rattle.matrix4x4.specs.IsFinite.{Matrix4x4-is_finite}
use Rattle.matrix4x4.specs.IsAffine.{Matrix4x4-is_affine}

unfoldable pub computing : Unit {0}
unfolding add mul eq of_bits Matrix4x4-transpose Matrix4x4-mul Matrix4x4-eq Matrix4x4-is_finite Matrix4x4-is_affine
computing = tt
