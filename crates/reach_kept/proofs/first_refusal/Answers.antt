-- `first_refusal` meets its contract. The invariant: the number of the boxes from b on is that of all.
use mathlib.Core.Path.{refl, ap, ◌∙◌}
use Rattle.bounds_query.specs.Query.{Bounds3f-refusal}
use Rattle.reach_kept.proofs.Judged.{number-first, number-later, number-end}
use Rattle.reach_kept.proofs.first_refusal.Goals as goal

pub loop-b-init : goal.loop-b-init
loop-b-init c = refl

pub returns-then-number-ne0 : goal.returns-then-number-ne0
returns-then-number-ne0 c = record {
  value = let l = c.loop-b in
      let a = c.args in
      let t = c.loop-b-test.true in
      let e = c.refusal-number.ensures.value ∙ ap Bounds3f-refusal c.bounds.ensures.value in
      number-first a.boxes.now t e c.if-number-ne0.true ∙ l.invariant;
}

pub loop-b-preserved : goal.loop-b-preserved
loop-b-preserved c =
    let l = c.loop-b in
    let a = c.args in
    let t = c.loop-b-test.true in
    let e = c.refusal-number.ensures.value ∙ ap Bounds3f-refusal c.bounds.ensures.value in
    number-later a.boxes.now t e c.if-number-ne0.false ∙ l.invariant

pub returns : goal.returns
returns c = record {
  value = let l = c.loop-b in
      let a = c.args in
      number-end a.boxes.now {i = l.b-index} c.loop-b-test.false ∙ l.invariant;
}
