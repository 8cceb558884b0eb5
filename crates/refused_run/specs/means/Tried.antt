-- What the code tries, and nothing that the promise rests on: runs of one length, then of another, `first_of`.
use Rattle.std.specs.Prelude.{ℕ, Bool, cond, List}
use Rattle.chain_number.specs.pose_pair.declared.Pose.{Pose}
use Rattle.refused_run.specs.declared.Run.{Run}
use Rattle.refused_run.specs.Run.{has_run, leftmost_run}

unfoldable pub first_of : Bool → List Pose → ℕ → ℕ → ℕ → Run
first_of rigid poses number short long =
    cond (has_run rigid poses number short) (leftmost_run rigid poses number short) (leftmost_run rigid poses number long)
