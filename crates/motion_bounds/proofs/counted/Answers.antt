-- `counted` meets its contract: each arm is its case of the definition.
use Rattle.motion_bounds.specs.Answer.{BoundsAnswer-counted}
use borrow.Author.Rules.{rules}
use Rattle.motion_bounds.proofs.counted.Goals as goal

pub returns-in-Bounds : goal.returns-in-Bounds
unfolding BoundsAnswer-counted
returns-in-Bounds c = record { value = rw c.in-Bounds.is }

pub returns-in-Refused : goal.returns-in-Refused
unfolding BoundsAnswer-counted
returns-in-Refused c = record { value = rw c.in-Refused.is }
