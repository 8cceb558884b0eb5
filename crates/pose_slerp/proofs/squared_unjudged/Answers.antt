-- `squared_unjudged` meets its contract: its calls in turn, from the last to the first.
use Rattle.pose_slerp.specs.means.Unjudged.{IntervalQuaternion-squared}
use Rattle.pose_slerp.proofs.squared_unjudged.Goals as goal

pub returns : goal.returns
unfolding IntervalQuaternion-squared
returns c = record {
  value = rw (
    c.add_enclosure.ensures.value,
    c.mul_ordered-ww.ensures.value,
    c.add_enclosure-xyz.ensures.value,
    c.mul_ordered-zz.ensures.value,
    c.add_enclosure-xy.ensures.value,
    c.mul_ordered-yy.ensures.value,
    c.mul_ordered-xx.ensures.value,
  );
}
