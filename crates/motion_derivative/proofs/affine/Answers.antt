-- `affine` meets its contract: its calls in turn, from the last to the first.
use Rattle.motion_derivative.specs.Derivative.{affine}
use Rattle.motion_derivative.proofs.affine.Goals as goal

pub returns : goal.returns
unfolding affine
returns c = record {
  value = rw (
    c.add.ensures,
    c.mul.ensures,
    c.from-2.ensures,
    c.from.ensures,
  );
}
