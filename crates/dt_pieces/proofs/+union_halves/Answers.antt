-- `union_halves` meets its contract, by the clauses of the union over pieces.
use Rattle.std.proofs.Common.{sym}
use Rattle.dt_pieces.specs.means.Pieces.{piece_box}
use Rattle.dt_pieces.proofs.Halves.{pieces_whole, pieces-halves}
use Rattle.dt_pieces.proofs.+union_halves.Goals as goal

pub returns-then-depth-eq0 : goal.returns-then-depth-eq0
returns-then-depth-eq0 t c =
    let a = c.args in
    record {
      value = rw c.union_piece.ensures.value
          (sym (pieces_whole (piece_box a.a a.s0 a.s1 a.pad0 a.pad1 a.b) a.r a.depth a.dt c.if-depth-eq0.true));
    }

pub returns : goal.returns
returns t c =
    let a = c.args in
    record {
      value = rw (c.union_halves.ensures.value, c.union_halves-below.ensures.value, c.midpoint-mid.ensures.value)
          (sym (pieces-halves (piece_box a.a a.s0 a.s1 a.pad0 a.pad1 a.b) a.r a.depth a.dt c.if-depth-eq0.false));
    }
