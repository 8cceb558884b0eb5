-- `put_parts` meets its contract. The invariant: the first i parts stand in the first places.
use native.Mathlib.Omega.{arith}
use lib.ListN.{length}
use Rattle.cut_parts.proofs.Tests.{cutting-first, cutting-next, cutting-last}
use Rattle.cut_parts.proofs.put_parts.Goals as goal

pub loop-i-init : goal.loop-i-init
loop-i-init c = let a = c.args in cutting-first a.b a.n a.old

pub loop-i-preserved : goal.loop-i-preserved
loop-i-preserved c =
    let l = c.loop-i in
    let a = c.args in
    let t = c.loop-i-test.true in
    let same = c.part.ensures.value (omega (arith, t)) c.requires t (omega arith) in
    cutting-next a.b a.n a.old l.invariant c.bounds_values.ensures.value same

pub returns : goal.returns
returns c = let a = c.args in record { left = cutting-last a.b a.n a.old c.loop-i.invariant (omega (arith, c.loop-i.auto.i-end, c.loop-i-test.false)); length = c.well_formed.1.1.0.1.0.1 }
