-- `part` is what stands between the two places, test by test.
use native.Mathlib.Omega.{arith}
use Prim.Native.Nat.{◌-◌}
use mathlib.Core.Path.{◌≡◌}
use borrow.Author.Tests.{le-leb, lt-leb}
use Rattle.question_lines.specs.Words.{part}
use Rattle.question_lines.proofs.part.Goals as goal

pub returns-then-s-to : goal.returns-then-s-to
unfolding part
returns-then-s-to c = record { value = rw (lt-leb _ _ c.if-s-to.true) }

pub returns-then-to-from : goal.returns-then-to-from
unfolding part
returns-then-to-from c = record {
  value = let a = c.args in
      let none : a.to - a.from ≡ 0 = omega arith in
      rw (le-leb _ _ c.if-s-to.false, none);
}

pub returns : goal.returns
unfolding part
returns c = record { value = rw (le-leb _ _ c.if-s-to.false) }
