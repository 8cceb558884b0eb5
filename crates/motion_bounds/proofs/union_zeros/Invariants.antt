-- `union_zeros` meets its contract. The invariant: the places below k are joined. Those from the count on are joined as one (`unused-once`).
use Prim.Native.Nat.{◌≤◌, ◌-◌}
use mathlib.Core.Path.{◌≡◌, sym, ◌∙◌, ap}
use native.Mathlib.Omega.{arith}
use lib.ListN.{get_or}
use lib.Ieee.{nan}
use borrow.Author.Rules.{rules}
use Rattle.transform.specs.control_flow.Loop.{loop}
use Rattle.transform.proofs.control_flow.Loop.{loop-start, loop-next, loop-end}
use Rattle.float32.specs.Operators.{positive_zero}
use Rattle.motion_bounds.specs.MotionBounds.{union_zero, union_zeros}
use Rattle.motion_bounds.proofs.Unused.{unused-once}
use Rattle.motion_bounds.proofs.union_zeros.Given as goal

abbrev pub invariant-loop-k : goal.invariant-loop-k
invariant-loop-k l = (l.k ≤ l.count) × (l.s ≡ loop (λ j. union_zero l.m l.a l.p (get_or l.zeros j nan)) l.k l.initial.s)

abbrev pub decreases-loop-k : goal.decreases-loop-k
decreases-loop-k l = l.count - l.k
