-- `put_decimals` puts whole numbers one by one. The invariant: what is left from the k-th on, put from `end` on, makes the whole.
use native.Mathlib.Omega.{arith}
use mathlib.Core.Path.{◌≡◌, refl, sym, ◌∙◌}
use lib.ListN.{length, take}
use lib.Seq.{length-take-le}
use Rattle.answer_lines.proofs.Pieces.{PutsAll, all_none}
use Rattle.answer_values.specs.Lines.{wholes_pieces}
use Rattle.answer_values.proofs.Lines.{decimals-turn, decimals-end, wholes-enough, wholes-few}
use Rattle.answer_values.proofs.put_decimals.Goals as goal

pub returns-then-values-count : goal.returns-then-values-count
returns-then-values-count c = let a = c.args in
    let all : PutsAll (wholes_pieces a.values.now a.count) a.out.now a.at a.out.now a.at = rw (wholes-few a.values.now a.count c.if-values-count.true) (all_none a.out.now a.at) in record { value = all.0; left = all.1 }

pub loop-n-init : goal.loop-n-init
loop-n-init c = (refl, refl)

pub loop-n-preserved : goal.loop-n-preserved
loop-n-preserved c =
    let l = c.loop-n in
    let a = c.args in
    let ns = take a.count a.values.now in
    let size : length ns ≡ a.count = length-take-le a.count a.values.now (omega arith) in
    let place = rw c.wide.ensures at c.put_decimal-end.ensures.value in
    let text = rw c.wide.ensures at c.put_decimal-end.ensures.left in
    let turn = decimals-turn ns l.n-index l.out _ l.end _ (omega (arith, size)) (place, text) in
    (turn.0 ∙ l.invariant.0, turn.1 ∙ l.invariant.1)

pub returns : goal.returns
returns c = let l = c.loop-n in let a = c.args in let ns = take a.count a.values.now in let size : length ns ≡ a.count = length-take-le a.count a.values.now (omega arith) in let end = decimals-end ns l.n-index l.out l.end (omega (arith, size)) in
    let all : PutsAll (wholes_pieces a.values.now a.count) a.out.now a.at l.out l.end = rw (wholes-enough a.values.now a.count (omega arith)) (sym end.0 ∙ l.invariant.0, sym end.1 ∙ l.invariant.1) in record { value = all.0; left = all.1 }
