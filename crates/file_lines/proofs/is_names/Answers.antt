-- `is_names` compares a line, single-spaced, with the names. The invariant: they are the same where they are so from `at` and from `i` on.
use native.Mathlib.Omega.{arith}
use mathlib.Core.Path.{refl, sym, ◌∙◌}
use Rattle.motion_file.specs.Layout.{fits}
use Rattle.file_lines.proofs.Names.{names_same, names-differ, names-short, names-end}
use Rattle.file_lines.proofs.is_names.Goals as goal

pub loop-byte-init : goal.loop-byte-init
loop-byte-init c = (omega arith, refl)

pub returns-then-line-at : goal.returns-then-line-at
unfolding fits
returns-then-line-at c = record {
  value = let a = c.args in
      let l = c.loop-byte in
      sym (l.invariant.1 ∙ names-short a.line.now a.text.now l.at l.byte-index (omega arith) (omega arith));
}

pub returns-then-line-at-2 : goal.returns-then-line-at-2
unfolding fits
returns-then-line-at-2 c = record {
  value = let a = c.args in
      let l = c.loop-byte in
      sym (l.invariant.1 ∙ names-differ a.line.now a.text.now l.at l.byte-index (omega arith) (omega arith) c.if-line-at-2.true);
}

pub loop-byte-preserved : goal.loop-byte-preserved
loop-byte-preserved c =
    let a = c.args in
    let l = c.loop-byte in (
      c.next_byte-at.ensures.within,
      l.invariant.1 ∙ names_same a.line.now a.text.now l.at l.byte-index _ c.next_byte-at.ensures (omega arith) c.if-line-at-2.false,
    )

pub returns : goal.returns
unfolding fits
returns c = record {
  value = let a = c.args in
      let l = c.loop-byte in
      sym (l.invariant.1 ∙ names-end a.line.now a.text.now l.at l.byte-index l.invariant.0 (omega arith));
}
