-- `decompose` meets its contract. The invariant: after `counter` rounds the definition stands at `r`, unsettled.
use Prim.Native.Nat.{◌-◌}
use Rattle.decomposition.proofs.Rounds.{Reached}
use Rattle.decomposition.proofs.decompose.Given as goal

abbrev pub invariant-loop-rit : goal.invariant-loop-rit
invariant-loop-rit l = Reached l.m l.counter l.r

abbrev pub decreases-loop-rit : goal.decreases-loop-rit
decreases-loop-rit l = 100 - l.counter
