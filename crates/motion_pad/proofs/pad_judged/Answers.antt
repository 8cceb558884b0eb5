-- `pad_judged` meets its contract: its calls are the formula's operations in working order, up to the first that is refused.
use Rattle.interval.proofs.refusal.Outcome.{handed-on}
use Rattle.motion_pad.proofs.Steps.{pad-steps}
use Rattle.motion_pad.proofs.pad_judged.Goals as goal

pub returns-in_err-s : goal.returns-in_err-s
returns-in_err-s c = record {
  value = let a = c.args in
      rw (
        handed-on _ _ c.from_residual.ensures,
        pad-steps a.pad0 a.pad1 a.dt,
        ← c.in_err-s.ensures.value,
      );
}

pub returns-in_err-p : goal.returns-in_err-p
returns-in_err-p c = record {
  value = let a = c.args in
      rw (
        handed-on _ _ c.from_residual-in_err-p.ensures,
        pad-steps a.pad0 a.pad1 a.dt,
        ← c.in_ok-s.ensures.value,
        ← c.in_err-p.ensures.value,
      );
}

pub returns-in_err-q : goal.returns-in_err-q
returns-in_err-q c = record {
  value = let a = c.args in
      rw (
        handed-on _ _ c.from_residual-in_err-q.ensures,
        pad-steps a.pad0 a.pad1 a.dt,
        ← c.in_ok-s.ensures.value,
        ← c.in_ok-p.ensures.value,
        ← c.in_err-q.ensures.value,
      );
}

pub returns : goal.returns
returns c = record {
  value = let a = c.args in
      rw (
        c.add_enclosure.ensures.value,
        pad-steps a.pad0 a.pad1 a.dt,
        ← c.in_ok-s.ensures.value,
        ← c.in_ok-p.ensures.value,
        ← c.in_ok-q.ensures.value,
      );
}
