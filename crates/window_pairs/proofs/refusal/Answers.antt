-- `refusal` meets its contract: the ticks, the first box, the second with the depth.
use mathlib.Core.Path.{sym, ◌∙◌}
use borrow.Author.Rules.{rules}
use Rattle.window_pairs.proofs.Kept.{ticks-first, box-first, other_last}
use Rattle.window_pairs.proofs.refusal.Goals as goal

pub returns-then-order-ne0 : goal.returns-then-order-ne0
returns-then-order-ne0 c = record {
  value = let a = c.args in
      let e = c.refusal-order.ensures.value in
      e ∙ sym (ticks-first a.b a.other a.depth a.ticks.now (λ z. c.if-order-ne0.true (e ∙ z)));
}

pub returns-then-first-ne0 : goal.returns-then-first-ne0
returns-then-first-ne0 c = record {
  value = let a = c.args in
      let e = c.refusal-first.ensures.value in
      e ∙ sym (box-first a.b a.other a.depth a.ticks.now (sym c.refusal-order.ensures.value ∙ c.if-order-ne0.false) (λ z. c.if-first-ne0.true (e ∙ z)));
}

pub returns : goal.returns
returns c = record {
  value = let a = c.args in
      c.cover_refusal.ensures.value
      ∙ sym (other_last a.b a.other a.depth a.ticks.now
      (sym c.refusal-order.ensures.value ∙ c.if-order-ne0.false) (sym c.refusal-first.ensures.value ∙ c.if-first-ne0.false));
}
