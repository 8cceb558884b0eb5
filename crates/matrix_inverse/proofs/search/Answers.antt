-- `search` meets its contract. The invariant: `best` is the best of the rows below j. Its place is in range by `search-in_range`.
use Prim.Native.Nat.{◌-◌}
use mathlib.Core.Path.{◌≡◌}
use native.Mathlib.Omega.{arith}
use Rattle.matrix_inverse.specs.Pivot.{Pivot-search}
use Rattle.control_flow.proofs.Loop.{loop-start, loop-next, loop-end}
use Rattle.matrix_inverse.proofs.InRange.{search-in_range}
use borrow.Author.Rules.{rules}
use Rattle.matrix_inverse.proofs.search.Goals as goal

pub loop-j-init : goal.loop-j-init
loop-j-init c = (search rules, loop-start _ _)

pub loop-j-preserved : goal.loop-j-preserved
loop-j-preserved c = (search rules, loop-next _ _ _ _ _ c.loop-j.invariant.1 c.search_row-best.ensures.value)

pub returns : goal.returns
unfolding Pivot-search
returns c = let v : c.loop-j.best ≡ Pivot-search c.args.m c.args.ipiv =
    loop-end _ _ 4 _ _ (omega arith) c.loop-j.invariant.1 in record { value = v; in_range = search-in_range _ _ _ v }
