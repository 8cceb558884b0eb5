-- `union_zeros` meets its contract. The invariant: the places below k are joined. Those from the count on are joined as one (`unused-once`).
use Prim.Native.Nat.{◌≤◌, ◌-◌}
use mathlib.Core.Path.{◌≡◌, sym, ◌∙◌, ap}
use native.Mathlib.Omega.{arith}
use lib.ListN.{get_or}
use lib.Ieee.{nan}
use borrow.Author.Rules.{rules}
use Rattle.transform.specs.control_flow.Loop.{loop}
use Rattle.transform.proofs.control_flow.Loop.{loop-start, loop-next, loop-end}
use Rattle.float32.specs.Operators.{positive_zero}
use Rattle.motion_bounds.specs.MotionBounds.{union_zero, union_zeros}
use Rattle.motion_bounds.proofs.Unused.{unused-once}
use Rattle.motion_bounds.proofs.union_zeros.Goals as goal

pub loop-k-init : goal.loop-k-init
loop-k-init c = (search rules, loop-start _ _)

pub loop-k-preserved : goal.loop-k-preserved
loop-k-preserved c = (search rules, loop-next _ _ _ _ _ c.loop-k.invariant.1 c.union_zero-s.ensures.value)

pub returns-then-count-lt8 : goal.returns-then-count-lt8
unfolding union_zeros
returns-then-count-lt8 c = record {
  value = let a = c.args in
      let joined = loop-end _ _ a.found.count _ _ (omega (arith, c.loop-k-test.false, c.loop-k.invariant.0)) c.loop-k.invariant.1 in
      c.union_zero.ensures.value ∙ ap (union_zero a.m a.a a.p positive_zero) joined
      ∙ sym (unused-once a.m a.a a.p a.found.zeros a.found.count c.requires.unused a.r 7 (omega arith) (omega arith));
}

pub returns : goal.returns
unfolding union_zeros
returns c = record { value = let full = c.requires.count in loop-end _ _ 8 _ _ (omega (arith, full)) c.loop-k.invariant.1 }
