-- `part` is what stands between the two places, test by test.
use Prim.Native.Nat.{◌-◌}
use native.Mathlib.Omega.{arith}
use mathlib.Core.Path.{◌≡◌}
use borrow.Author.Tests.{le-leb, lt-leb}
use Rattle.question_values.specs.Places.{between}
use Rattle.question_values.proofs.part.Goals as goal

pub returns-then-values-to : goal.returns-then-values-to
unfolding between
returns-then-values-to c = record { value = rw (lt-leb _ _ c.if-values-to.true) }

pub returns-then-to-from : goal.returns-then-to-from
unfolding between
returns-then-to-from c = record {
  value = let a = c.args in
      let none : a.to - a.from ≡ 0 = omega arith in
      rw (le-leb _ _ c.if-values-to.false, none);
}

pub returns : goal.returns
unfolding between
returns c = record { value = rw (le-leb _ _ c.if-values-to.false) }
