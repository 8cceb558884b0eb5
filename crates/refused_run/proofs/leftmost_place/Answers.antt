-- `leftmost_place` meets its contract. Its loop keeps that no run to the left of the next place has the number.
use mathlib.Core.Path.{◌∙◌}
use native.Mathlib.Omega.{arith}
use Rattle.refused_run.proofs.Lent.{found_at, missed-next, found_none}
use Rattle.refused_run.proofs.leftmost_place.Goals as goal

pub returns-then-run_number-number : goal.returns-then-run_number-number
returns-then-run_number-number c = record {
  value = let l = c.loop-place in
      let a = c.args in
      found_at a.rigid a.poses.now a.number a.count l.place
      (omega (arith, c.run_places-places.ensures.value)) l.invariant c.run_number.ensures.value c.if-run_number-number.true;
}

pub loop-place-preserved : goal.loop-place-preserved
loop-place-preserved c =
    let a = c.args in
    missed-next a.rigid a.poses.now a.number a.count c.loop-place.place c.loop-place.invariant c.run_number.ensures.value c.if-run_number-number.false

pub returns : goal.returns
returns c = record {
  value = let l = c.loop-place in
      let a = c.args in
      let places = c.run_places-places.ensures.value in
      places ∙ found_none a.rigid a.poses.now a.number a.count (λ j k. l.invariant j (omega (arith, k, places)));
}
