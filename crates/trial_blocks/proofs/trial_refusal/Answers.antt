-- `trial_refusal` meets its contract: one test chooses.
use mathlib.Core.Path.{sym, ap}
use mathlib.Core.Bool.{Bool, cond}
use borrow.Author.Tests.{eq-eqb, ne_eqb}
use Rattle.trial_blocks.proofs.trial_refusal.Goals as goal

pub returns-then-changed-eq0 : goal.returns-then-changed-eq0
returns-then-changed-eq0 c = record { value = let a = c.args in ap (λ (b : Bool). cond b a.asked a.changed) (sym (eq-eqb a.changed 0 c.if-changed-eq0.true)) }

pub returns-else-changed-eq0 : goal.returns-else-changed-eq0
returns-else-changed-eq0 c = record { value = let a = c.args in ap (λ (b : Bool). cond b a.asked a.changed) (sym (ne_eqb a.changed 0 c.if-changed-eq0.false)) }
