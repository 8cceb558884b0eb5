-- `next_byte` is the next place of the line once each run of spaces is one. The invariant: what stands before `i` is worth one space.
use native.Mathlib.Omega.{arith}
use mathlib.Core.Path.{◌≡◌, ◌∙◌}
use lib.ListN.{length}
use Rattle.file_lines.proofs.Spaces.{next-other, run-first, run_more, run-over, run_end}
use Rattle.file_lines.proofs.next_byte.Goals as goal

pub returns-then-line-at-ne32 : goal.returns-then-line-at-ne32
returns-then-line-at-ne32 c = next-other c.args.line.now c.args.at (omega arith) c.if-line-at-ne32.true

pub loop-i-init : goal.loop-i-init
loop-i-init c =
    let a = c.args in
    (c.if-line-at-ne32.false, run-first a.line.now a.at (omega arith) c.if-line-at-ne32.false)

pub returns-then-line-i-ne32 : goal.returns-then-line-i-ne32
returns-then-line-i-ne32 c =
    let a = c.args in
    let l = c.loop-i in
    record {
      after = omega arith;
      within = omega arith;
      spaced = rw l.invariant.0 (l.invariant.1 ∙ run-over a.line.now l.i (omega arith) c.if-line-i-ne32.true);
    }

pub loop-i-preserved : goal.loop-i-preserved
loop-i-preserved c =
    let a = c.args in
    let l = c.loop-i in
    (l.invariant.0, l.invariant.1 ∙ run_more a.line.now l.i (omega arith) c.if-line-i-ne32.false)

pub returns : goal.returns
returns c =
    let a = c.args in
    let l = c.loop-i in
    let whole : l.i ≡ length a.line.now = omega arith in
    record {
      after = omega arith;
      within = omega arith;
      spaced = rw l.invariant.0 (rw whole at l.invariant.1 ∙ run_end a.line.now (length a.line.now) (omega arith));
    }
