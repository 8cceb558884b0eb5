-- `has_shear` meets its contract: the rows of the transpose are the columns.
use Rattle.matrix4x4.specs.Transpose.{Matrix4x4-transpose}
use Rattle.rigid_pose.specs.Rigid.{Matrix4x4-has_shear}
use Rattle.rigid_pose.proofs.has_shear.Goals as goal

pub returns : goal.returns
unfolding Matrix4x4-has_shear Matrix4x4-transpose
returns c = record {
  value = rw (
    c.near_zero-yz.ensures.value,
    c.dot3-3.ensures.value,
    c.near_zero-xz.ensures.value,
    c.dot3-2.ensures.value,
    c.near_zero-xy.ensures.value,
    c.dot3.ensures.value,
    c.transpose-t.ensures.value,
  );
}
