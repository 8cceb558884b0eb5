-- `add_move` meets its contract: the move's covers of the boxes in front, joined to what is answered so far (`move-refused`, `move-accepted`).
use mathlib.Core.Path.{sym, ap, ◌∙◌}
use native.Mathlib.Omega.{arith}
use borrow.Author.Rules.{rules}
use lib.ListN.{take}
use lib.Seq.{length-take-le}
use Rattle.lent_arrays.specs.bounds3.declared.Bounds3f.{Bounds3f}
use Rattle.lent_arrays.specs.transform.declared.BoundsAnswer.{BoundsAnswer}
use Rattle.box_front.specs.motion_cover.Cover.{AnimatedTransform-cover}
use Rattle.motion_rows.specs.Rows.{AnimatedTransform-from_rows}
use Rattle.box_front.specs.means.Front.{Boxes-answers, Front-of}
use Rattle.motion_fronts.specs.means.Covered.{Boxes-asked, Places-answered}
use Rattle.chain_fronts.proofs.Joined.{front-small, move-refused, move-accepted, move-size}
use Rattle.chain_fronts.proofs.add_move.Goals as goal

pub returns-then-n-boxes : goal.returns-then-n-boxes
returns-then-n-boxes c = record { covered = λ answer first r. let l = front-small r in absurd (omega (arith, l, c.if-n-boxes.true)) }

pub slice_bounds-covers-end : goal.slice_bounds-covers-end
slice_bounds-covers-end c =
    let a = c.args in
    sym (length-take-le a.front.count a.boxes.now c.if-n-boxes.false)

pub returns-then-got-n : goal.returns-then-got-n
returns-then-got-n c = record {
  covered = let a = c.args in
      let l = c.requires in
      let m = c.from_rows-m.ensures.value in
      let in_front = Boxes-asked (take a.front.count a.boxes.now) in
      let g = c.covers-got.ensures.front ∙ ap (λ x. Front-of (Boxes-answers (λ b. AnimatedTransform-cover x b a.depth) in_front)) m in
      let cover : Bounds3f → BoundsAnswer = λ b. AnimatedTransform-cover (AnimatedTransform-from_rows a.rows.now) b a.depth in
      λ answer first r. move-refused cover l r g c.if-got-n.true;
}

pub join_boxes-requires : goal.join_boxes-requires
join_boxes-requires c = let a = c.args in let l = c.requires in let h = c.if-n-boxes.false in let cover : Bounds3f → BoundsAnswer = λ b. AnimatedTransform-cover c.from_rows-m.result b a.depth in record { count_le_place_count = omega (arith, h, l); count_in_bounds = move-size cover a.boxes.now a.front.count h l c.covers-got.ensures.places }

pub returns : goal.returns
returns c = record {
  covered = let a = c.args in
      let l = c.requires in
      let m = c.from_rows-m.ensures.value in
      let in_front = Boxes-asked (take a.front.count a.boxes.now) in
      let g = c.covers-got.ensures.front ∙ ap (λ x. Front-of (Boxes-answers (λ b. AnimatedTransform-cover x b a.depth) in_front)) m in
      let moved = c.covers-got.ensures.places ∙ ap (λ x. Places-answered (Boxes-answers (λ b. AnimatedTransform-cover x b a.depth) in_front)) m in
      let cover : Bounds3f → BoundsAnswer = λ b. AnimatedTransform-cover (AnimatedTransform-from_rows a.rows.now) b a.depth in
      λ answer first r. move-accepted cover l r g moved c.if-got-n.false c.join_boxes.ensures.left;
}
