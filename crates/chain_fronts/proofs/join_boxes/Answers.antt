-- `join_boxes` meets its contract. The invariant: the boxes before i are joined.
use mathlib.Core.Path.{◌≡◌, ap, ◌∙◌}
use native.Mathlib.Omega.{arith}
use lib.ListN.{set}
use Rattle.chain_fronts.specs.means.Joined.{Places-joined}
use Rattle.chain_fronts.proofs.Joined.{joined-first, joined-next}
use Rattle.chain_fronts.proofs.join_boxes.Goals as goal

pub loop-i-init : goal.loop-i-init
loop-i-init c = joined-first c.args.moved.now c.args.places.now

pub loop-i-preserved : goal.loop-i-preserved
loop-i-preserved c =
    let l = c.loop-i in
    let written = ap (set l.places l.i) c.join_box.ensures.left in
    joined-next c.args.moved.now c.args.places.now l.invariant (omega (arith, c.loop-i-test.true, c.requires.count_in_bounds)) written

pub returns : goal.returns
returns c = record {
  left = let l = c.loop-i in
      let a = c.args in
      let e : l.i ≡ a.count = omega (arith, c.loop-i-test.false, l.auto.i-end) in
      l.invariant ∙ ap (λ n. Places-joined n a.moved.now a.places.now) e;
}
