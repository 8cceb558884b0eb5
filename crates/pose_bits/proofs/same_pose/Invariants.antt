-- `same_pose` compares place by place. The invariant: all places so far have the same float.
use lib.ListN.{length}
use Rattle.pose_bits.proofs.Same.{SameBelow}
use Rattle.pose_bits.proofs.same_pose.Given as goal

abbrev pub invariant-loop-x : goal.invariant-loop-x
invariant-loop-x l = SameBelow l.a l.b (length l.yielded)
