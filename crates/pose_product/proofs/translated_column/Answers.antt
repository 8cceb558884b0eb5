-- `translated_column` meets its contract: its calls are the operations, the last call first.
use Rattle.pose_product.specs.means.Unjudged.{Pose-translated_column}
use Rattle.pose_product.proofs.translated_column.Goals as goal

pub returns : goal.returns
unfolding Pose-translated_column
returns c = record {
  value = rw (
    c.add_enclosure-uz.ensures.value,
    c.add_enclosure-tz.ensures.value,
    c.add_enclosure-sz.ensures.value,
    c.add_enclosure-uy.ensures.value,
    c.add_enclosure-ty.ensures.value,
    c.add_enclosure-sy.ensures.value,
    c.add_enclosure-ux.ensures.value,
    c.add_enclosure-tx.ensures.value,
    c.add_enclosure-sx.ensures.value,
    c.mul_ordered-zz.ensures.value,
    c.mul_ordered-zy.ensures.value,
    c.mul_ordered-zx.ensures.value,
    c.mul_ordered-oz.ensures.value,
    c.mul_ordered-oy.ensures.value,
    c.mul_ordered-ox.ensures.value,
  );
}
