-- `line_end` is the place of the next line feed. The invariant: from `i` on it is the same place as from `at` on.
use native.Mathlib.Numerals.{add-one}
use native.Mathlib.Omega.{arith}
use Rattle.motion_file.specs.Text.{line_feed}
use Rattle.motion_file.proofs.Pieces.{position_here, position-next, position-end}
use Rattle.motion_file.proofs.line_end.Goals as goal

pub returns-then-s-i-eq10 : goal.returns-then-s-i-eq10
returns-then-s-i-eq10 c =
    let l = c.loop-i in
    omega (arith, position_here line_feed c.args.s.now l.i (omega arith) c.if-s-i-eq10.true)

pub loop-i-preserved : goal.loop-i-preserved
loop-i-preserved c =
    let l = c.loop-i in
    rw (add-one l.i)
    (omega (arith, position-next line_feed c.args.s.now l.i (omega arith) c.if-s-i-eq10.false))

pub returns : goal.returns
returns c = grind (arith, position-end)
