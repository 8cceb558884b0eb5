-- `MotionDerivative::range_at` meets its contract: its calls in turn, from the last to the first.
use Rattle.motion_derivative.specs.Derivative.{MotionDerivative-range_at}
use Rattle.motion_derivative.proofs.MotionDerivative.range_at.Goals as goal

pub returns : goal.returns
unfolding MotionDerivative-range_at
returns c = record {
  value = rw (
    c.add-2.ensures,
    c.add.ensures,
    c.from.ensures,
    c.mul-sines.ensures,
    c.affine-2.ensures.value,
    c.mul-cosines.ensures,
    c.affine.ensures.value,
  );
}
