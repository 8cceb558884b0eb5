-- `judged` meets its contract. The invariant: what is counted, with the front of what is left from k on, is the whole.
use mathlib.Core.Path.{◌≡◌, sym, ap, ◌∙◌}
use native.Mathlib.Omega.{arith}
use lib.ListN.{length}
use Rattle.bounds_query.specs.Query.{cover_refusal}
use Rattle.box_front.specs.means.Front.{box_at, Bounds3f-tested}
use Rattle.box_front.proofs.Counted.{tested-number, box-tested, from_first, from_next, from-refused, from_end}
use Rattle.box_front.proofs.judged.Goals as goal

pub loop-k-init : goal.loop-k-init
loop-k-init c = let a = c.args in from_first (Bounds3f-tested a.depth) a.boxes.now

pub returns-then-number-ne0 : goal.returns-then-number-ne0
returns-then-number-ne0 c = record {
  value = let l = c.loop-k in
      let a = c.args in
      let number = c.cover_refusal-number.ensures.value ∙ ap (λ b. cover_refusal b a.depth) c.bounds.ensures.value in
      let refused = from-refused (Bounds3f-tested a.depth) a.boxes.now c.loop-k-test.true
      (number ∙ sym (tested-number a.depth (box_at a.boxes.now l.k))) c.if-number-ne0.true in
      sym refused ∙ l.invariant;
}

pub loop-k-preserved : goal.loop-k-preserved
loop-k-preserved c =
    let l = c.loop-k in
    let a = c.args in
    let number = c.cover_refusal-number.ensures.value ∙ ap (λ b. cover_refusal b a.depth) c.bounds.ensures.value in
    let none = tested-number a.depth (box_at a.boxes.now l.k) ∙ sym number ∙ c.if-number-ne0.false in
    let next = from_next (Bounds3f-tested a.depth) a.boxes.now (box-tested a.depth) c.loop-k-test.true none in
    next ∙ l.invariant

pub returns : goal.returns
returns c = record {
  value = let l = c.loop-k in
      let a = c.args in
      let e : l.k ≡ length a.boxes.now = omega (arith, c.loop-k-test.false) in
      sym (from_end (Bounds3f-tested a.depth) a.boxes.now {k = l.k} c.loop-k-test.false e) ∙ l.invariant;
}
