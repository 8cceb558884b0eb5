-- `has_scale` meets its contract: for each axis the squared length of the image, and the test.
use Rattle.transform.specs.HasScale.{Matrix4x4-has_scale}
use Rattle.transform.proofs.has_scale.Goals as goal

pub returns : goal.returns
unfolding Matrix4x4-has_scale
returns c = record {
  value = rw (
    c.not_one-3.ensures.value,
    c.image_squared-3.ensures.value,
    c.not_one-2.ensures.value,
    c.image_squared-2.ensures.value,
    c.not_one.ensures.value,
    c.image_squared.ensures.value,
  );
}
