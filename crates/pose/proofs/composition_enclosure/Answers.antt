-- `composition_enclosure` meets its contract: the stages in the order of the definition, up to the first that is refused.
use Rattle.pose_steps.proofs.refusal.Outcome.{handed-on}
use Rattle.pose.proofs.Steps.{composition-steps}
use Rattle.pose.proofs.composition_enclosure.Goals as goal

pub returns-in_err-scaling : goal.returns-in_err-scaling
returns-in_err-scaling c = record {
  value = let a = c.args in
      rw (handed-on _ _ c.from_residual.ensures, composition-steps a.trans a.rotate a.rigid a.s0 a.s1 a.dt, ← c.in_err-scaling.ensures.value);
}

pub returns-in_err-rotating : goal.returns-in_err-rotating
returns-in_err-rotating c = record {
  value = let a = c.args in
      rw (
        handed-on _ _ c.from_residual-in_err-rotating.ensures,
        composition-steps a.trans a.rotate a.rigid a.s0 a.s1 a.dt,
        ← c.in_ok-scaling.ensures.value,
        ← c.in_err-rotating.ensures.value,
      );
}

pub returns-in_err-first : goal.returns-in_err-first
returns-in_err-first c = record {
  value = let a = c.args in
      rw (
        handed-on _ _ c.from_residual-in_err-first.ensures,
        composition-steps a.trans a.rotate a.rigid a.s0 a.s1 a.dt,
        ← c.in_ok-scaling.ensures.value,
        ← c.in_ok-rotating.ensures.value,
        ← c.in_err-first.ensures.value,
      );
}

pub returns : goal.returns
returns c = record {
  value = let a = c.args in
      rw (
        c.mul_enclosure.ensures.value,
        composition-steps a.trans a.rotate a.rigid a.s0 a.s1 a.dt,
        ← c.in_ok-scaling.ensures.value,
        ← c.in_ok-rotating.ensures.value,
        ← c.in_ok-first.ensures.value,
      );
}
