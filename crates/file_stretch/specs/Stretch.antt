-- What the program `stretch` prints for a move file: `stretch_text`. 11 "precedes all others" (document 01) and is printed as the program `cover`
-- prints it, and so is 12 of the chain; of any other refused chain the number is followed by the lines of its shortest refused stretch (document 02).
-- The box is not asked for. Definitions only.
use Rattle.std.specs.Prelude.{ℕ, ◌+◌, false, cond, List, [], ◌∷◌, ◌++◌, eqb}
use Rattle.chain_number.specs.pose_pair.declared.Pose.{Pose}
use Rattle.chain_number.specs.chain_poses.Poses.{Poses-of_lists}
use Rattle.chain_number.specs.Number.{Chain-number}
use Rattle.refused_run.specs.declared.Run.{Run}
use Rattle.refused_run.specs.Run.{shortest_run}
use Rattle.motion_text.specs.motion_file.declared.MoveFile.{MoveFile}
use Rattle.motion_text.specs.motion_file.Text.{ascii, line_feed}
use Rattle.motion_text.specs.motion_file.Layout.{MoveFile-read, MoveFile-poses}
use Rattle.motion_text.specs.Answer.{decimal, refusal_text}

-- the numbers of a first line and of a last one
unfoldable pub lines_text : ℕ → ℕ → List ℕ
lines_text first last = ascii "lines " ++ (decimal first ++ (ascii " to " ++ (decimal last ++ (line_feed ∷ []))))

-- Lines count from 1, and the first has the names: the pose at place 0 stands in line 2.
unfoldable pub run_text : ℕ → Run → List ℕ
run_text number r =
    cond (eqb r.refusal 0)
    (cond (eqb r.length 0) (ascii "accepted\n") (refusal_text number ++ lines_text (r.place + 2) (r.place + r.length + 1)))
    (refusal_text r.refusal)

-- of a chain of poses; a file's is plain
unfoldable pub poses_text : List Pose → List ℕ
poses_text poses = run_text (Chain-number false poses) (shortest_run false poses)

-- the text that is printed for a file's bytes
unfoldable pub stretch_text : List ℕ → List ℕ
stretch_text bytes = cond (eqb (MoveFile-read bytes).refusal 0) (poses_text (Poses-of_lists (MoveFile-poses bytes))) (refusal_text (MoveFile-read bytes).refusal)
