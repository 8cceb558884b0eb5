-- `place` meets its contract. Its loop keeps i + the place in what is left from i on: the place in the whole.
use Prim.Native.Nat.{suc, ◌-◌, ◌<◌}
use mathlib.Core.Path.{◌≡◌, sym, ◌∙◌}
use native.Mathlib.Omega.{arith}
use lib.ListN.{length}
use Rattle.chain_rows.proofs.Search.{place_here, place-next, place-last}
use Rattle.chain_rows.proofs.place.Goals as goal

pub returns-then-time-moves : goal.returns-then-time-moves
returns-then-time-moves c =
    let l = c.loop-i in
    let a = c.args in
    let n : suc l.i < length a.moves.now = omega (arith, c.loop-i-test.true) in
    record { value = sym (place_here a.time a.moves.now l.i n c.if-time-moves.true) ∙ l.invariant; below = omega (arith, n) }

pub loop-i-preserved : goal.loop-i-preserved
loop-i-preserved c =
    let l = c.loop-i in
    let a = c.args in
    let n : suc l.i < length a.moves.now = omega (arith, c.loop-i-test.true) in
    sym (place-next a.time a.moves.now l.i n c.if-time-moves.false) ∙ l.invariant

pub returns : goal.returns
returns c =
    let l = c.loop-i in
    let a = c.args in
    let e : length a.moves.now - 1 ≡ l.i = omega (arith, c.loop-i-test.false, l.auto.i-end) in
    let n : suc l.i ≡ length a.moves.now = omega (arith, e, c.requires) in
    record { value = e ∙ (sym (place-last a.time a.moves.now l.i n) ∙ l.invariant); below = omega (arith, c.requires) }
