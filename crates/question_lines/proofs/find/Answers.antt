-- `find`: so many bytes stand before the first that is the one looked for; beyond the text's end there are none.
use Rattle.std.proofs.Common.{rules, tests, ◌≡◌, ◌∙◌, ap, arith, ◌+◌, ◌-◌, ℕ, not, nat_eq, length, take, drop}
use Rattle.std.proofs.lemmas.Iterator.{YieldsList-from_slice}
use Rattle.std.proofs.lemmas.Iterator.Consumers.{count_from_yields_List}
use Rattle.std.proofs.lemmas.Iterator.Search.{YieldsList-from_take_while}
use Rattle.std.proofs.lemmas.List.{at_drop_all, take_rest}
use Rattle.std.proofs.lemmas.List.Folds.{length-prefix_len}
use Rattle.hexadecimal.specs.Digit.{position}
use Rattle.question_lines.proofs.Found.{before_is}
use Rattle.question_lines.proofs.find.Goals as goal

pub returns-then-from-text-clause-value : goal.returns-then-from-text-clause-value
unfolding position
returns-then-from-text-clause-value c =
    let a = c.args in
    let none : position a.b (drop a.from a.text.now) ≡ 0 = at_drop_all (position a.b) a.text.now a.from c.if-from-text.true in
    omega (arith, none)

pub returns-clause-value : goal.returns-clause-value
returns-clause-value c =
    let a = c.args in
    let rest = take (length a.text.now - a.from) (drop a.from a.text.now) in
    let other = λ (x : ℕ). not (nat_eq x a.b) in
    ap (λ (n : ℕ). a.from + n)
    (count_from_yields_List c.take_while.result _ c.count.ensures.ran
    (YieldsList-from_take_while _ other (YieldsList-from_slice rest (cc)) c.take_while.ensures.closure c.take_while.ensures.done (λ x b q k. search (rules, tests)))
    ∙ length-prefix_len other rest
    ∙ before_is a.b rest
    ∙ ap (position a.b) (take_rest a.text.now a.from))
