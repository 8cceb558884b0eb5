-- `products_ends_sum` meets its contract: its calls in turn, from the last to the first.
use Rattle.pose_rotation.specs.means.Unjudged.{Products-ends_sum}
use Rattle.pose_rotation.proofs.products_ends_sum.Goals as goal

pub returns : goal.returns
unfolding Products-ends_sum
returns c = record {
  value = rw (
    c.ends_sum-9.ensures.value,
    c.ends_sum-8.ensures.value,
    c.ends_sum-7.ensures.value,
    c.ends_sum-6.ensures.value,
    c.ends_sum-5.ensures.value,
    c.ends_sum-4.ensures.value,
    c.ends_sum-3.ensures.value,
    c.ends_sum-2.ensures.value,
    c.ends_sum.ensures.value,
  );
}
