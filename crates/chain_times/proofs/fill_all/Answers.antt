-- `fill_all` meets its contract. Its loop keeps what is written up to the stretch of move i, with the floats of the times that are left: the floats of all.
use Prim.Native.Nat.{suc, ◌-◌, ◌<◌}
use mathlib.Core.Path.{◌≡◌, refl, sym, subst, ◌∙◌}
use native.Mathlib.Omega.{arith}
use lib.Dec.{T}
use lib.ListN.{length}
use Rattle.time_list.proofs.motion_chain.Stretches.{rises-drop}
use Rattle.chain_times.proofs.Stretches.{floats-next, floats-last}
use Rattle.chain_times.proofs.fill_all.Goals as goal

pub loop-i-init : goal.loop-i-init
loop-i-init c = (omega arith, c.requires.answers_len, refl)

pub loop-i-preserved : goal.loop-i-preserved
loop-i-preserved c =
    let l = c.loop-i in
    let a = c.args in
    let n : suc l.i < length a.moves.now = omega (arith, c.loop-i-test.true) in
    let r = rises-drop l.from a.times.now (subst T (sym c.requires.times_value) tt) in
    let next =
    floats-next a.moves.now a.p a.times.now l.answers l.i l.from n r l.invariant.1 c.stretch_end-to.ensures.value c.stretch_end-to.ensures.above c.stretch_end-to.ensures.below c.fill_part.ensures.left in
    (c.stretch_end-to.ensures.below, c.fill_part.ensures.same ∙ l.invariant.1, next ∙ l.invariant.2)

pub shape_of-answers : goal.shape_of-answers
shape_of-answers c = c.fill_part-2.ensures.same ∙ (c.loop-i.invariant.1 ∙ sym c.requires.answers_len)

pub returns : goal.returns
returns c = record {
  left = let l = c.loop-i in
      let a = c.args in
      let e : l.i ≡ length a.moves.now - 1 = omega (arith, c.loop-i-test.false, l.auto.i-end) in
      let n : suc (length a.moves.now - 1) ≡ length a.moves.now = omega (arith, c.requires.moves_nonzero) in
      floats-last a.moves.now a.p a.times.now l.answers (length a.moves.now - 1) l.from n l.invariant.0 l.invariant.1 c.fill_part-2.ensures.left ∙ rw e at l.invariant.2;
}
