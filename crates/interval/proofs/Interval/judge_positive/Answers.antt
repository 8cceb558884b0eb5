-- `Interval::judge_positive` meets its contract: each return is the case that the test chose.
use Rattle.std.proofs.Common.{ℕ, Bool, cond, sym, ap}
use Rattle.interval.specs.Enclosure.{not_positive}
use Rattle.interval.proofs.Interval.judge_positive.Goals as goal

abbrev number : Bool → ℕ
number b = cond b 10 0

pub returns-then-self : goal.returns-then-self
unfolding not_positive
returns-then-self c = record { value = sym (ap number c.if-self.true) }

pub returns-else-self : goal.returns-else-self
unfolding not_positive
returns-else-self c = record { value = sym (ap number c.if-self.false) }
