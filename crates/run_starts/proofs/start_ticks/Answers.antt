-- `start_ticks` meets its contract: what is refused leaves the lent places, else they hold the definition's starting ticks, of which the promises hold.
use mathlib.Core.Path.{sym, ◌∙◌}
use Rattle.run_starts.specs.Booms.{Booms-of_lists}
use Rattle.run_starts.proofs.Booms.{accepted-few, accepted-lengths}
use Rattle.run_starts.proofs.Left.{lengths-before-ends, day-refused, day-given}
use borrow.Author.Rules.{rules}
use Rattle.run_starts.proofs.start_ticks.Goals as goal

pub returns-then-number-ne0 : goal.returns-then-number-ne0
returns-then-number-ne0 c = let a = c.args in let booms = Booms-of_lists a.count a.boxes.now a.lengths.now in let all = day-refused booms a.starts.now c.refusal-number.result c.refusal-number.ensures.value c.if-number-ne0.true in record { refusal = all.0; left = all.1.0; day = all.1.1 }

pub ends-requires : goal.ends-requires
ends-requires c = let a = c.args in let z = sym c.refusal-number.ensures.value ∙ c.if-number-ne0.false in record { count_bound = accepted-few a.count a.boxes.now a.lengths.now z; good_lengths = accepted-lengths a.count a.boxes.now a.lengths.now z }

pub starts_of-requires : goal.starts_of-requires
starts_of-requires c = let a = c.args in let z = sym c.refusal-number.ensures.value ∙ c.if-number-ne0.false in let few = accepted-few a.count a.boxes.now a.lengths.now z in let good = accepted-lengths a.count a.boxes.now a.lengths.now z in record { count_bound = few; by_index = lengths-before-ends a.count a.boxes.now a.lengths.now few good c.ends.result c.ends.ensures.value }

pub returns : goal.returns
returns c = let a = c.args in let z = sym c.refusal-number.ensures.value ∙ c.if-number-ne0.false in let few = accepted-few a.count a.boxes.now a.lengths.now z in let good = accepted-lengths a.count a.boxes.now a.lengths.now z in let all = day-given a.count a.boxes.now a.lengths.now few good a.starts.now c.starts_of.result c.ends.result z
    c.ends.ensures.value c.starts_of.ensures.value in record { refusal = all.0; left = all.1.0; day = all.1.1 }
