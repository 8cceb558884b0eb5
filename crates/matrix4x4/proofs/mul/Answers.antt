-- `mul` meets its contract: the rows of the transposed second matrix are its columns.
use Rattle.matrix4x4.specs.Transpose.{Matrix4x4-transpose}
use Rattle.matrix4x4.specs.Mul.{Matrix4x4-mul}
use Rattle.matrix4x4.proofs.mul.Goals as goal

pub returns : goal.returns
unfolding Matrix4x4-transpose Matrix4x4-mul
returns c = record { value = rw (c.mul_row.ensures.value, c.mul_row-2.ensures.value, c.mul_row-3.ensures.value, c.mul_row-4.ensures.value, c.transpose-t.ensures.value) }
