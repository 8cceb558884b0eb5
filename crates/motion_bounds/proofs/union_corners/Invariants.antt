-- `union_corners` meets its contract. The invariant: the corners below c are joined.
use Prim.Native.Nat.{◌≤◌, ◌-◌}
use mathlib.Core.Path.{◌≡◌, sym}
use native.Mathlib.Omega.{arith}
use borrow.Author.Rules.{rules}
use Rattle.motion_bounds.specs.MotionBounds.{all_places, union_corners}
use Rattle.motion_bounds.specs.Examined.{corners_examined}
use Rattle.motion_bounds.specs.Answer.{BoundsAnswer-counted}
use Rattle.motion_bounds.proofs.Counts.{no-corner}
use Rattle.motion_bounds.proofs.union_corners.Given as goal

abbrev pub invariant-loop-c : goal.invariant-loop-c
invariant-loop-c l = (l.c ≤ 8) × (l.r ≡ BoundsAnswer-counted (union_corners all_places l.m l.a l.b l.c) (corners_examined l.m l.a l.b l.c))

abbrev pub decreases-loop-c : goal.decreases-loop-c
decreases-loop-c l = 8 - l.c
