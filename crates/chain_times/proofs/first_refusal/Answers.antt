-- `first_refusal` meets its contract. Its loop keeps the number of the times that are left, asked of the moves that are left: that of all.
use Prim.Native.Nat.{suc, ◌-◌, ◌<◌}
use mathlib.Core.Path.{◌≡◌, refl, sym, subst, ◌∙◌}
use native.Mathlib.Omega.{arith}
use lib.Dec.{T}
use lib.ListN.{length}
use Rattle.time_list.proofs.motion_chain.Stretches.{rises-drop}
use Rattle.chain_times.proofs.Numbers.{number-here, number-next, number-last}
use Rattle.chain_times.proofs.first_refusal.Goals as goal

pub loop-i-init : goal.loop-i-init
loop-i-init c = (omega arith, refl)

pub returns-then-number-ne0 : goal.returns-then-number-ne0
returns-then-number-ne0 c = record {
  value = let l = c.loop-i in
      let a = c.args in
      let n : suc l.i < length a.moves.now = omega (arith, c.loop-i-test.true) in
      let r = rises-drop l.from a.times.now (subst T (sym c.requires.times_value) tt) in
      number-here a.moves.now a.p a.times.now l.i l.from n r c.stretch_end-end.ensures.value c.first_refusal-number.ensures.value c.if-number-ne0.true ∙ l.invariant.1;
}

pub loop-i-preserved : goal.loop-i-preserved
loop-i-preserved c =
    let l = c.loop-i in
    let a = c.args in
    let n : suc l.i < length a.moves.now = omega (arith, c.loop-i-test.true) in
    let r = rises-drop l.from a.times.now (subst T (sym c.requires.times_value) tt) in
    let next = number-next a.moves.now a.p a.times.now l.i l.from n r c.stretch_end-end.ensures.value c.first_refusal-number.ensures.value c.if-number-ne0.false in
    (c.stretch_end-end.ensures.below, next ∙ l.invariant.1)

pub returns : goal.returns
returns c = record {
  value = let l = c.loop-i in
      let a = c.args in
      let e : l.i ≡ length a.moves.now - 1 = omega (arith, c.loop-i-test.false, l.auto.i-end) in
      let n : suc (length a.moves.now - 1) ≡ length a.moves.now = omega (arith, c.requires.moves_nonzero) in
      number-last a.moves.now a.p a.times.now (length a.moves.now - 1) l.from n c.first_refusal.ensures.value ∙ rw e at l.invariant.1;
}
