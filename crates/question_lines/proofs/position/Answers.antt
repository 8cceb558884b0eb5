-- `position` looks word by word. The invariant: so many words stand before the byte, and the place among the rest is still to be added.
use native.Mathlib.Omega.{arith}
use mathlib.Core.Path.{◌≡◌}
use Rattle.question_lines.proofs.Positions.{from, from_start, from_end, from-here}
use Rattle.question_lines.proofs.position.Goals as goal

pub loop-at-init : goal.loop-at-init
loop-at-init c =
    let a = c.args in (omega arith, omega arith, from_start a.word.now a.list.now)

pub returns-then-same : goal.returns-then-same
returns-then-same c = record {
  value = let a = c.args in
      let l = c.loop-at in
      let here = from-here a.word.now a.list.now l.at _ _ (omega arith) c.find-end.ensures.value c.same.ensures.value in
      let none : from a.word.now a.list.now l.at ≡ 0 = rw c.if-same.true at here in
      omega (arith, l.invariant.2, none);
}

pub loop-at-preserved : goal.loop-at-preserved
loop-at-preserved c =
    let a = c.args in
    let l = c.loop-at in
    let find = c.find-end in
    let here = from-here a.word.now a.list.now l.at find.result _ (omega arith) find.ensures.value c.same.ensures.value in
    let more = rw c.if-same.false at here in
    (omega (arith, find.ensures.upper_bound), omega (arith, find.ensures.value), omega (arith, l.invariant.2, more))

pub returns : goal.returns
returns c = record {
  value = let a = c.args in
      let l = c.loop-at in
      omega (arith, l.invariant.2, from_end a.word.now a.list.now l.at (omega arith));
}
