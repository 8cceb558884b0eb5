-- `jellyplain_moves_pose` meets its contract: that of `pose` of the asked moves.
use borrow.Author.Rules.{rules}
use Rattle.api.proofs.jellyplain_moves_pose.Goals as goal

pub returns : goal.returns
returns c = record { refusal = rw c.asked.ensures.value at c.pose.ensures.refusal; left = rw c.asked.ensures.value at c.pose.ensures.left; as_set = rw c.asked.ensures.value at c.pose.ensures.as_set }
