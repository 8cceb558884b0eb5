-- `first_of` meets its contract: the first search has found a place (`first_found`), or has not (`first-missed`).
use borrow.Author.Rules.{rules}
use Rattle.refused_run.proofs.Lent.{first_found, first-missed}
use Rattle.refused_run.proofs.first_of.Goals as goal

pub returns-then-place-run_places : goal.returns-then-place-run_places
returns-then-place-run_places c = record {
  value = let a = c.args in
      first_found a.rigid a.poses.now a.number a.short a.long c.leftmost_place-place.ensures.value c.run_places.ensures.value c.if-place-run_places.true;
}

pub returns : goal.returns
returns c = record {
  value = let a = c.args in
      first-missed a.rigid a.poses.now a.number a.short a.long
      c.leftmost_place-place.ensures.value c.run_places.ensures.value
      c.if-place-run_places.false c.leftmost_place-other.ensures.value;
}
