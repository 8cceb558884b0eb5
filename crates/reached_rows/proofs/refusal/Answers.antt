-- `refusal` meets its contract: how many rows there are, then the cover, then the rows.
use mathlib.Core.Path.{◌≡◌, sym, ap, ◌∙◌}
use mathlib.Core.List.{List, map}
use borrow.Author.Rules.{rules}
use lib.ListN.{length, length-map}
use lib.Ieee.{Float}
use Rattle.bounds3.specs.List.{Bounds3f-of_list}
use Rattle.reached_rows.proofs.Numbers.{is_bad_count, count-first, cover-next, rows_last}
use Rattle.reached_rows.proofs.refusal.Goals as goal

same_count : (rows : List (List Float)) → is_bad_count (length (map Bounds3f-of_list rows)) ≡ is_bad_count (length rows)
same_count rows = ap is_bad_count (length-map rows Bounds3f-of_list)

pub returns-then-n : goal.returns-then-n
returns-then-n c = record {
  value = let a = c.args in
      sym (count-first a.cover (map Bounds3f-of_list a.rows.now) (same_count a.rows.now ∙ c.if-n.true));
}

pub returns-then-number-ne0 : goal.returns-then-number-ne0
returns-then-number-ne0 c = record {
  value = let a = c.args in
      let e = c.refusal-number.ensures.value in
      e ∙ sym (cover-next a.cover (map Bounds3f-of_list a.rows.now) (same_count a.rows.now ∙ c.if-n.false) (λ z. c.if-number-ne0.true (e ∙ z)));
}

pub returns : goal.returns
returns c = record {
  value = let a = c.args in
      let none = sym c.refusal-number.ensures.value ∙ c.if-number-ne0.false in
      c.first_refusal.ensures.value ∙ sym (rows_last a.cover (map Bounds3f-of_list a.rows.now) (same_count a.rows.now ∙ c.if-n.false) none);
}
