-- `union_corners` meets its contract. The invariant: the corners below c are joined.
use Prim.Native.Nat.{◌≤◌, ◌-◌}
use mathlib.Core.Path.{◌≡◌, sym}
use native.Mathlib.Omega.{arith}
use borrow.Author.Rules.{rules}
use Rattle.motion_bounds.specs.MotionBounds.{all_places, union_corners}
use Rattle.motion_bounds.specs.Examined.{corners_examined}
use Rattle.motion_bounds.specs.Answer.{BoundsAnswer-counted}
use Rattle.motion_bounds.proofs.Counts.{no-corner}
use Rattle.motion_bounds.proofs.union_corners.Goals as goal

pub loop-c-init : goal.loop-c-init
loop-c-init c = (search rules, rw c.default.ensures.value (sym (no-corner _ _ _)))

pub union_corner-r-requires : goal.union_corner-r-requires
union_corner-r-requires c = (search rules, c.loop-c.invariant.1)

pub loop-c-preserved : goal.loop-c-preserved
loop-c-preserved c = (search rules, c.union_corner-r.ensures.value)

pub returns : goal.returns
returns c = record { value = let all : c.loop-c.c ≡ 8 = omega arith in rw all at c.loop-c.invariant.1 }
