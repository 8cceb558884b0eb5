-- `pair_stage` meets its contract. Its loop keeps the first number of the pairs from the one whose second pose is i: that of all.
use mathlib.Core.Path.{◌≡◌}
use Rattle.motion_chain.specs.Chain.{stage, Pair-number}
use Rattle.chain_poses.proofs.Loops.{pairs_from}
use Rattle.chain_poses.proofs.pair_stage.Given as goal

abbrev pub invariant-loop-i : goal.invariant-loop-i
invariant-loop-i l = stage (Pair-number l.k) (pairs_from l.poses l.i) ≡ stage (Pair-number l.k) (pairs_from l.poses 1)
