-- `products_unjudged` meets its contract: its calls in turn, from the last to the first.
use Rattle.pose_rotation.specs.means.Unjudged.{Products-of}
use Rattle.pose_rotation.proofs.products_unjudged.Goals as goal

pub returns : goal.returns
unfolding Products-of
returns c = record {
  value = rw (
    c.mul_ordered-wz.ensures.value,
    c.mul_ordered-wy.ensures.value,
    c.mul_ordered-wx.ensures.value,
    c.mul_ordered-yz.ensures.value,
    c.mul_ordered-xz.ensures.value,
    c.mul_ordered-xy.ensures.value,
    c.mul_ordered-zz.ensures.value,
    c.mul_ordered-yy.ensures.value,
    c.mul_ordered-xx.ensures.value,
  );
}
