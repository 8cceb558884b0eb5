-- `is_finite` meets its contract: a call for each component.
use Rattle.quaternion.specs.IsFinite.{Quaternion-is_finite}
use Rattle.quaternion.proofs.Quaternion.is_finite.Goals as goal

pub returns : goal.returns
unfolding Quaternion-is_finite
returns c = record {
  value = rw (
    c.is_finite.ensures.value,
    c.is_finite-2.ensures.value,
    c.is_finite-3.ensures.value,
    c.is_finite-4.ensures.value,
  );
}
