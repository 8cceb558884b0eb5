-- `around` meets its contract. The invariant: what one of the boxes meets, the union or one of those from b on meets.
use mathlib.Core.Path.{ap, ◌∙◌}
use Rattle.reach_rows.proofs.Named.{around-first, around-next, around-last}
use Rattle.bounds3.specs.Bounds3f.{Bounds3f-union_bounds}
use Rattle.reach_rows.proofs.around.Goals as goal

pub loop-b-init : goal.loop-b-init
loop-b-init c = around-first _ _

pub loop-b-preserved : goal.loop-b-preserved
loop-b-preserved c =
    let l = c.loop-b in
    let t = c.loop-b-test.true in
    let e = c.union_bounds-next.ensures.value ∙ ap (Bounds3f-union_bounds l.union) c.bounds.ensures.value in
    around-next _ l.invariant t e

pub returns : goal.returns
returns c = record {
  around = let l = c.loop-b in
      around-last _ l.invariant c.loop-b-test.false;
}
