-- `judge_times` meets its contract: its test is the definition's.
use Prim.Native.Nat.{ℕ}
use mathlib.Core.Path.{sym, ap}
use mathlib.Core.Bool.{Bool, cond}
use Rattle.pose_pair.specs.Pose.{times_refusal}
use Rattle.pose_pair.proofs.judge_times.Goals as goal

-- by the answer of the test
abbrev refusal : Bool → ℕ
refusal b = cond b 3 0

pub returns-then-end-start : goal.returns-then-end-start
unfolding times_refusal
returns-then-end-start c = record { value = sym (ap refusal (rw c.is_finite.ensures.value at c.if-end-start.true)) }

pub returns-else-end-start : goal.returns-else-end-start
unfolding times_refusal
returns-else-end-start c = record { value = sym (ap refusal (rw c.is_finite.ensures.value at c.if-end-start.false)) }
