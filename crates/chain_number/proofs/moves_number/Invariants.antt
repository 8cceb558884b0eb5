-- `moves_number` meets its contract. Its loop keeps the first number of the moves from the one whose second pose is i: that of all.
use mathlib.Core.Path.{◌≡◌}
use Rattle.chain_poses.specs.motion_chain.Chain.{stage}
use Rattle.chain_poses.proofs.Loops.{pairs_from}
use Rattle.chain_number.specs.Number.{Move-number}
use Rattle.chain_number.proofs.moves_number.Given as goal

abbrev pub invariant-loop-i : goal.invariant-loop-i
invariant-loop-i l = stage (Move-number l.rigid) (pairs_from l.poses l.i) ≡ stage (Move-number l.rigid) (pairs_from l.poses 1)
