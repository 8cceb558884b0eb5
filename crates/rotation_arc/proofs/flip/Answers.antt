-- `flip` meets its contract: its test is the definition's.
use mathlib.Core.Path.{sym, ap, ◌∙◌}
use mathlib.Core.Bool.{Bool, cond}
use Rattle.quaternion.specs.declared.Quaternion.{Quaternion}
use Rattle.quaternion.specs.Quaternion.{Quaternion-neg}
use Rattle.rotation_arc.specs.ShorterArc.{flip}
use Rattle.rotation_arc.proofs.flip.Goals as goal

-- by the answer of the test
abbrev turned : Quaternion → Bool → Quaternion
turned r1 b = cond b (Quaternion-neg r1) r1

pub returns-then-dot : goal.returns-then-dot
unfolding flip
returns-then-dot c = record { value = c.neg.ensures ∙ sym (ap (turned c.args.r1) (rw c.dot.ensures.value at c.if-dot.true)) }

pub returns-else-dot : goal.returns-else-dot
unfolding flip
returns-else-dot c = record { value = sym (ap (turned c.args.r1) (rw c.dot.ensures.value at c.if-dot.false)) }
