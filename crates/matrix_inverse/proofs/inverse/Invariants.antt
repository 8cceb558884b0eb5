-- `inverse` meets its contract. The invariant is `Reached`: after i rounds the definition stands where the locals do.
use Prim.Native.Nat.{◌≤◌, ◌-◌}
use Rattle.matrix_inverse.proofs.Rounds.{Reached}
use Rattle.matrix_inverse.proofs.inverse.Given as goal

abbrev pub invariant-loop-i : goal.invariant-loop-i
invariant-loop-i l = (l.i ≤ 4) × Reached l.initial.minv l.i l.minv l.ipiv l.indxr l.indxc

abbrev pub decreases-loop-i : goal.decreases-loop-i
decreases-loop-i l = 4 - l.i
