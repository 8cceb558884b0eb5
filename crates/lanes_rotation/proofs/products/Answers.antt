-- `products` meets its contract: nine products, side by side.
use Rattle.lanes_rotation.specs.means.Matrices.{LanesProducts-of}
use Rattle.lanes_rotation.proofs.products.Goals as goal

pub returns : goal.returns
unfolding LanesProducts-of
returns c = record {
  value = λ i. record {
    xx = c.mul-xx.ensures.value i;
    yy = c.mul-yy.ensures.value i;
    zz = c.mul-zz.ensures.value i;
    xy = c.mul-xy.ensures.value i;
    xz = c.mul-xz.ensures.value i;
    yz = c.mul-yz.ensures.value i;
    wx = c.mul-wx.ensures.value i;
    wy = c.mul-wy.ensures.value i;
    wz = c.mul-wz.ensures.value i;
  };
}
