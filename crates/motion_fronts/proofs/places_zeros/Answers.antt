-- `places_zeros` meets its contract. The invariant: the zeros of the places before i are +0.
use mathlib.Core.Path.{ap, ◌∙◌}
use lib.ListN.{set}
use lib.Seq.{take_all}
use Rattle.motion_fronts.specs.means.Zeros.{Places-positive_zeros}
use Rattle.motion_fronts.proofs.Zeros.{zeros-first, zeros-next}
use Rattle.motion_fronts.proofs.places_zeros.Goals as goal

pub loop-i-init : goal.loop-i-init
loop-i-init c = let a = c.args in zeros-first a.boxes.now a.places.now

pub loop-i-preserved : goal.loop-i-preserved
loop-i-preserved c =
    let l = c.loop-i in
    let a = c.args in
    let written = ap (set l.places l.i) c.place_zeros.ensures.left in
    zeros-next a.boxes.now a.places.now l.invariant c.loop-i-test.true written

pub returns : goal.returns
returns c = record {
  left = let l = c.loop-i in
      let a = c.args in
      let all = take_all l.i a.boxes.now c.loop-i-test.false in
      l.invariant ∙ ap (λ bs. Places-positive_zeros bs a.places.now) all;
}
