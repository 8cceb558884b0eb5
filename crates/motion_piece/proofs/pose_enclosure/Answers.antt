-- `pose_enclosure` meets its contract: its calls in turn, up to the first that is refused.
use Rattle.motion_cover.proofs.refusal.Outcome.{handed-on}
use Rattle.motion_piece.proofs.Piece.{matrix-steps}
use Rattle.motion_piece.proofs.pose_enclosure.Goals as goal

pub returns-in_err-trans : goal.returns-in_err-trans
returns-in_err-trans c = record {
  value = let a = c.args in
      rw (handed-on _ _ c.from_residual.ensures, matrix-steps a.a a.s0 a.s1 a.dt, ← c.in_err-trans.ensures.value);
}

pub returns-in_err-rotate : goal.returns-in_err-rotate
returns-in_err-rotate c = record {
  value = let a = c.args in
      rw (
        handed-on _ _ c.from_residual-in_err-rotate.ensures,
        matrix-steps a.a a.s0 a.s1 a.dt,
        ← c.in_ok-trans.ensures.value,
        ← c.in_err-rotate.ensures.value,
      );
}

pub returns : goal.returns
returns c = record {
  value = let a = c.args in
      rw (
        c.composition_enclosure.ensures.value,
        matrix-steps a.a a.s0 a.s1 a.dt,
        ← c.in_ok-trans.ensures.value,
        ← c.in_ok-rotate.ensures.value,
      );
}
