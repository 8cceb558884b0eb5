-- `refusal` meets its contract: the count, then the order.
use mathlib.Core.Path.{sym, ◌∙◌}
use Rattle.tick_list.specs.Ticks.{Ticks-refusal}
use Rattle.tick_list.proofs.Loops.{count-refused}
use Rattle.tick_list.proofs.refusal.Goals as goal

pub returns-then-n : goal.returns-then-n
returns-then-n c = record { value = count-refused c.args.ticks.now c.if-n.true }

pub returns-then-not-rise : goal.returns-then-not-rise
unfolding Ticks-refusal
returns-then-not-rise c = record { value = rw (c.if-n.false, sym c.rise.ensures.value ∙ c.if-not-rise.true) }

pub returns : goal.returns
unfolding Ticks-refusal
returns c = record { value = rw (c.if-n.false, sym c.rise.ensures.value ∙ c.if-not-rise.false) }
