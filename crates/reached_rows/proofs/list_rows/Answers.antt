-- `list_rows` meets its contract: the number, then what was named; the clauses follow from both (`rows-refused`, `rows_named`).
use mathlib.Core.Path.{sym, ◌∙◌}
use mathlib.Core.List.{map}
use borrow.Author.Rules.{rules}
use native.Mathlib.Omega.{arith}
use lib.ListN.{length-map}
use Rattle.bounds3.specs.List.{Bounds3f-of_list}
use Rattle.reached_rows.proofs.Numbers.{accepted-few}
use Rattle.reached_rows.proofs.Apart.{rows-refused, rows_named}
use Rattle.reached_rows.proofs.list_rows.Goals as goal

pub returns-then-number-ne0 : goal.returns-then-number-ne0
returns-then-number-ne0 c = let a = c.args in let all = rows-refused a.cover (map Bounds3f-of_list a.rows.now) a.places.now c.refusal-number.ensures.value c.if-number-ne0.true in record { refusal = all.0; count = all.1.0; left = all.1.1.0; apart = all.1.1.1.0; kept_apart = all.1.1.1.1 }

pub name_rows-named-requires : goal.name_rows-named-requires
name_rows-named-requires c =
    let a = c.args in
    let few = accepted-few a.cover (map Bounds3f-of_list a.rows.now) (sym c.refusal-number.ensures.value ∙ c.if-number-ne0.false) in
    let same = length-map a.rows.now Bounds3f-of_list in
    omega (arith, few, same)

pub returns : goal.returns
returns c = let a = c.args in let none = sym c.refusal-number.ensures.value ∙ c.if-number-ne0.false in let all = rows_named a.cover (map Bounds3f-of_list a.rows.now) a.places.now none c.name_rows-named.ensures.named in record { refusal = all.0; count = all.1.0; left = all.1.1.0; apart = all.1.1.1.0; kept_apart = all.1.1.1.1 }
