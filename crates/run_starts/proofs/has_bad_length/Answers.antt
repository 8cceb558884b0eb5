-- `has_bad_length` meets its contract: no run length before the index is bad.
use Prim.Native.Nat.{◌<◌}
use mathlib.Core.Path.{refl, sym}
use native.Mathlib.Omega.{arith}
use Rattle.std.proofs.lemmas.List.{get_or-take, length-take}
use Rattle.run_schedule.specs.Day.{some_below}
use Rattle.run_schedule.proofs.Places.{some-here}
use Rattle.run_starts.specs.means.Ends.{bad_length_at}
use Rattle.run_starts.proofs.Loops.{some_next}
use Rattle.run_starts.proofs.has_bad_length.Goals as goal

pub loop-n-init : goal.loop-n-init
unfolding some_below
loop-n-init c = refl

pub returns-then-n : goal.returns-then-n
returns-then-n c = record {
  value = let a = c.args in
      let i = c.loop-n.n-index in
      let h : i < a.count = omega (arith, length-take a.count a.lengths.now) in
      sym (some-here a.count (bad_length_at a.lengths.now) i h (rw (get_or-take a.count a.lengths.now i 0 h) at c.if-n.true));
}

pub loop-n-preserved : goal.loop-n-preserved
loop-n-preserved c =
    let a = c.args in
    let i = c.loop-n.n-index in
    let h : i < a.count = omega (arith, length-take a.count a.lengths.now) in
    some_next i (bad_length_at a.lengths.now) c.loop-n.invariant (rw (get_or-take a.count a.lengths.now i 0 h) at c.if-n.false)
