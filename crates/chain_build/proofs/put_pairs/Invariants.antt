-- `put_pairs` meets its contract. Its loop keeps the first number of the pairs from the one whose second pose is i, what is put once all of them are,
-- and that all are built if these are.
use Prim.Native.Nat.{◌-◌}
use mathlib.Core.Path.{◌≡◌}
use Rattle.chain_number.specs.Number.{Move-number}
use Rattle.chain_poses.specs.motion_chain.Chain.{stage}
use Rattle.chain_poses.specs.motion_chain.Built.{Each}
use Rattle.chain_poses.proofs.Loops.{pairs_from}
use Rattle.chain_build.specs.means.Pairs.{Pair-Built}
use Rattle.chain_build.proofs.Put.{put}
use Rattle.chain_build.proofs.put_pairs.Given as goal

abbrev pub invariant-loop-i : goal.invariant-loop-i
invariant-loop-i l =
    (stage (Move-number l.rigid) (pairs_from l.poses l.i) ≡ stage (Move-number l.rigid) (pairs_from l.poses 1))
    × (put l.rigid l.moves (l.i - 1) (pairs_from l.poses l.i) ≡ put l.rigid l.initial.moves 0 (pairs_from l.poses 1))
    × (Each (Pair-Built l.rigid) (pairs_from l.poses l.i) → Each (Pair-Built l.rigid) (pairs_from l.poses 1))
