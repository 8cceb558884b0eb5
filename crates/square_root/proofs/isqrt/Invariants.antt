-- The invariant: the root is at most x, and y is Heron's mean of x and n / x (`Iterate`). A mean that is no smaller than x shows that x is the root.
use Rattle.square_root.proofs.Heron.{Iterate}
use Rattle.square_root.proofs.isqrt.Given as goal

abbrev pub invariant-loop-y : goal.invariant-loop-y
invariant-loop-y l = Iterate l.n l.x l.y

abbrev pub decreases-loop-y : goal.decreases-loop-y
decreases-loop-y l = l.x
