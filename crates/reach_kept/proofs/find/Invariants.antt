-- `find` meets its contract. The invariant: the windows before k are asked, none of them refused, and the masks are theirs.
use mathlib.Core.List.{map}
use Rattle.bounds_query.specs.bounds3.List.{Bounds3f-of_list}
use Rattle.reach_kept.proofs.Finding.{Finding}
use Rattle.reach_kept.proofs.find.Given as goal

abbrev pub invariant-loop-i : goal.invariant-loop-i
invariant-loop-i l =
    Finding l.moves (map Bounds3f-of_list l.boxes) l.depth l.ticks (map Bounds3f-of_list l.rows) l.masks l.i
