-- `take_pose` meets its contract. The invariant: the pose is taken over the boxes before i.
use mathlib.Core.Path.{◌≡◌, refl, sym, ap, ◌∙◌}
use native.Mathlib.Omega.{arith}
use lib.ListN.{set}
use Rattle.motion_piece.specs.means.Piece.{PaddedPose-judged}
use Rattle.box_front.proofs.Counted.{none_lent, none-placed}
use Rattle.box_front.proofs.Put.{taken_none, taking-first, taking-next, taking-refused, taking-last}
use Rattle.box_front.proofs.take_pose.Goals as goal

pub returns-then-n-boxes : goal.returns-then-n-boxes
returns-then-n-boxes c = let a = c.args in let all = taken_none a.first (PaddedPose-judged a.pose) a.boxes.now a.front a.places.now (none_lent a.front a.boxes.now c.if-n-boxes.true) in record { front = all.0; places = all.1 }

pub returns-then-n-gt-PLACE_COUNT : goal.returns-then-n-gt-PLACE_COUNT
returns-then-n-gt-PLACE_COUNT c = let a = c.args in let all = taken_none a.first (PaddedPose-judged a.pose) a.boxes.now a.front a.places.now
    (none-placed a.front a.boxes.now c.if-n-boxes.false c.if-n-gt-PLACE_COUNT.true) in record { front = all.0; places = all.1 }

pub loop-i-init : goal.loop-i-init
loop-i-init c = (refl, taking-first _ _ _ _ _)

pub returns-then-refusal-ne0 : goal.returns-then-refusal-ne0
returns-then-refusal-ne0 c = let l = c.loop-i in let a = c.args in let all = taking-refused a.first (PaddedPose-judged a.pose) a.boxes.now a.front l.invariant.1 (omega (arith, l.invariant.0, c.loop-i-test.true))
    c.if-n-boxes.false c.if-n-gt-PLACE_COUNT.false c.take_box-refusal.ensures.refusal c.if-refusal-ne0.true (ap (set l.places l.i) c.take_box-refusal.ensures.left) in record { front = all.0; places = all.1 }

pub loop-i-preserved : goal.loop-i-preserved
loop-i-preserved c =
    let l = c.loop-i in
    let a = c.args in
    let t = c.loop-i-test.true in
    let written = ap (set l.places l.i) c.take_box-refusal.ensures.left in
    let none = sym c.take_box-refusal.ensures.refusal ∙ c.if-refusal-ne0.false in
    let next = taking-next a.first (PaddedPose-judged a.pose) a.boxes.now a.front l.invariant.1 (omega (arith, t, l.invariant.0)) c.if-n-boxes.false none written in
    (l.invariant.0, next)

pub returns : goal.returns
returns c = let l = c.loop-i in let a = c.args in let e : l.i ≡ a.front.count = omega (arith, l.invariant.0, l.auto.i-end, c.loop-i-test.false) in let all = taking-last a.first (PaddedPose-judged a.pose) a.boxes.now a.front l.invariant.1 e c.if-n-boxes.false c.if-n-gt-PLACE_COUNT.false in record { front = all.0; places = all.1 }
