-- `union_places` meets its contract. The invariant: what is joined, with what is left, is the whole.
use mathlib.Core.Path.{◌≡◌}
use lib.ListN.{drop}
use Rattle.chain_covers.specs.means.Union.{union_boxes}
use Rattle.chain_covers.proofs.union_places.Given as goal

abbrev pub invariant-loop-place : goal.invariant-loop-place
invariant-loop-place l = union_boxes l.union (drop l.place-index l.place-items) ≡ union_boxes l.initial.union l.place-items
