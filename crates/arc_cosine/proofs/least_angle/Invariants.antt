-- The invariant: with as many halvings left as cosines to 31, the bracket holds the least angle, its lower cosine is carried along (`Halving`), and its search
-- ends where the whole one does (`Searching`). The measure is the distance of the ends.
use Prim.Native.Nat.{◌-◌}
use Rattle.arc_cosine.proofs.Halving.{Searching}
use Rattle.arc_cosine.proofs.least_angle.Given as goal

abbrev pub invariant-loop-b : goal.invariant-loop-b
invariant-loop-b l = Searching l.w l.cosines l.b

abbrev pub decreases-loop-b : goal.decreases-loop-b
decreases-loop-b l = l.b.high - l.b.low
