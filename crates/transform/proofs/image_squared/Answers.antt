-- `image_squared` meets its contract: the image, then its dot product with itself.
use Rattle.transform.specs.HasScale.{image_squared}
use Rattle.transform.proofs.image_squared.Goals as goal

pub returns : goal.returns
unfolding image_squared
returns c = record { value = rw (c.dot.ensures.value, c.moved_vector-v.ensures.value) }
