-- `waits` meets its contract: no boom before the index waits.
use Prim.Native.Nat.{◌<◌}
use mathlib.Core.Path.{refl, sym}
use native.Mathlib.Omega.{arith}
use borrow.Author.Tests.{eq-eqb, ne_eqb}
use lib.Dec.{eqb}
use lib.ListN.{get_or}
use Rattle.std.proofs.lemmas.List.{get_or-take, length-take}
use Rattle.run_schedule.specs.Day.{some_below}
use Rattle.run_schedule.proofs.Places.{some-here}
use Rattle.run_starts.proofs.Loops.{some_next}
use Rattle.run_starts.proofs.waits.Goals as goal

pub loop-end-init : goal.loop-end-init
unfolding some_below
loop-end-init c = refl

pub returns-then-end-eq0 : goal.returns-then-end-eq0
returns-then-end-eq0 c = record {
  value = let a = c.args in
      let i = c.loop-end.end-index in
      let h : i < a.count = omega (arith, length-take a.count a.ends) in
      sym (some-here a.count (λ k. eqb (get_or a.ends k 0) 0) i h (eq-eqb (get_or a.ends i 0) 0 (rw (get_or-take a.count a.ends i 0 h) at c.if-end-eq0.true)));
}

pub loop-end-preserved : goal.loop-end-preserved
loop-end-preserved c =
    let a = c.args in
    let i = c.loop-end.end-index in
    let h : i < a.count = omega (arith, length-take a.count a.ends) in
    some_next i (λ k. eqb (get_or a.ends k 0) 0) c.loop-end.invariant (ne_eqb (get_or a.ends i 0) 0 (rw (get_or-take a.count a.ends i 0 h) at c.if-end-eq0.false))
