-- `first_refusal` meets its contract: no row before k is refused, so that the number is that of the rows from k on.
use Prim.Native.Nat.{◌<◌}
use mathlib.Core.Path.{refl, sym, ap, ◌∙◌}
use lib.ListN.{length}
use Rattle.bounds_query.specs.Query.{Bounds3f-refusal}
use Rattle.reached_rows.proofs.Numbers.{number-here, number-next, number-end}
use Rattle.reached_rows.proofs.first_refusal.Goals as goal

pub loop-row-init : goal.loop-row-init
loop-row-init c = refl

pub returns-then-number-ne0 : goal.returns-then-number-ne0
returns-then-number-ne0 c = record {
  value = let l = c.loop-row in
      let a = c.args in
      let h : l.row-index < length a.rows.now = c.loop-row-test.true in
      let n = c.refusal-number.ensures.value ∙ ap Bounds3f-refusal c.bounds.ensures.value in
      sym (number-here a.rows.now l.row-index h n c.if-number-ne0.true) ∙ l.invariant;
}

pub loop-row-preserved : goal.loop-row-preserved
loop-row-preserved c =
    let l = c.loop-row in
    let a = c.args in
    let h : l.row-index < length a.rows.now = c.loop-row-test.true in
    let n = sym (c.refusal-number.ensures.value ∙ ap Bounds3f-refusal c.bounds.ensures.value) ∙ c.if-number-ne0.false in
    number-next a.rows.now l.row-index h n ∙ l.invariant

pub returns : goal.returns
returns c = record {
  value = let l = c.loop-row in
      let a = c.args in
      sym (number-end a.rows.now l.row-index c.loop-row-test.false) ∙ l.invariant;
}
