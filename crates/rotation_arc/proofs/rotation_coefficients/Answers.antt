-- `rotation_coefficients` meets its contract: a chain of nine calls.
use Rattle.rotation_arc.specs.ArcCoefficients.{rotation_coefficients}
use Rattle.rotation_arc.proofs.rotation_coefficients.Goals as goal

pub returns : goal.returns
unfolding rotation_coefficients
returns c = record {
  value = rw (
    c.judged.ensures.value,
    c.new.ensures.value,
    c.to_rows-2.ensures.value,
    c.to_rows.ensures.value,
    c.normalize-qperp.ensures.value,
    c.sub.ensures,
    c.mul.ensures,
    c.acos-theta.ensures.value,
    c.clamp.ensures.value,
  );
}
