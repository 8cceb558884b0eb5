-- `end_taken` meets its contract: each return is a case of the definition.
use native.Mathlib.Omega.{arith}
use borrow.Author.Tests.{eq-eqb, ne_eqb}
use Rattle.run_starts.specs.means.Ends.{end_taken}
use borrow.Author.Rules.{rules}
use Rattle.run_starts.proofs.end_taken.Goals as goal

pub returns-then-end-ne0 : goal.returns-then-end-ne0
unfolding end_taken
returns-then-end-ne0 c = record { value = rw (ne_eqb _ 0 c.if-end-ne0.true) }

pub returns-then-meets_running : goal.returns-then-meets_running
unfolding end_taken
returns-then-meets_running c = record { value = rw (eq-eqb _ 0 c.if-end-ne0.false, ← c.meets_running.ensures.value, c.if-meets_running.true) }

pub overflow_add-result : goal.overflow_add-result
overflow_add-result c =
    omega (arith, (c.requires.good_lengths c.args.i c.requires.i_lt_count).1, c.requires.t_le_last_tick)

pub returns : goal.returns
unfolding end_taken
returns c = record { value = rw (eq-eqb _ 0 c.if-end-ne0.false, ← c.meets_running.ensures.value, c.if-meets_running.false) }
