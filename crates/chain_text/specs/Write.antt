-- Writing a kept chain and a box, whatever the rows: `Moves-write`, the text or a refusal's number, and what it leaves in the lent buffer.
-- Quotations are of document 02, "One way to write a move file". Definitions only.
use Rattle.std.specs.Prelude.{ℕ, cond, List, [], ◌∷◌, map, eqb, leb, length, Float}
use Rattle.refusal.specs.First.{first_refusal}
use Rattle.motion_text.specs.matrix4x4.Rows.{Row, Rows, col}
use Rattle.bounds3.specs.declared.Bounds3f.{Bounds3f}
use Rattle.bounds3.specs.List.{Bounds3f-list}
use Rattle.bounds_query.specs.Query.{Bounds3f-refusal}
use Rattle.lent_arrays.specs.pose_pair.declared.Pose.{Pose}
use Rattle.kept_poses.specs.built_poses.Poses.{Chain-poses}
use Rattle.chain_rows.specs.Kept.{Moves-chain}
use Rattle.motion_text.specs.motion_file.Layout.{padded_names}
use Rattle.motion_text.specs.Answer.{text_left}
use Rattle.file_text.specs.Text.{file_text}

-- a time, the upper three rows of a matrix, entry by entry, and a pad: a pose's line of values
abbrev pub pose_line : Float → Row → Row → Row → Float → List Float
pose_line time r0 r1 r2 pad =
    time
    ∷ col r0 0 ∷ col r0 1 ∷ col r0 2 ∷ col r0 3
    ∷ col r1 0 ∷ col r1 1 ∷ col r1 2 ∷ col r1 3
    ∷ col r2 0 ∷ col r2 1 ∷ col r2 2 ∷ col r2 3
    ∷ pad ∷ []

abbrev pub Pose-values : Pose → List Float
Pose-values p = pose_line p.time p.m.r0 p.m.r1 p.m.r2 p.pad

-- the text of the poses in the rows, and a box
unfoldable pub Moves-text : List Rows → Bounds3f → List ℕ
Moves-text rows b = file_text padded_names (map Pose-values (Chain-poses (Moves-chain rows))) (Bounds3f-list b)

pub data TextAnswer : Type 0 where
  written : List ℕ → TextAnswer
  refused : ℕ → TextAnswer

-- a buffer that is too short for a text of this length is 15
abbrev pub room_refusal : ℕ → ℕ → ℕ
room_refusal room size = cond (leb size room) 0 15

-- No moves are no chain: 12. Then come 6 and 7 of the box; "one too short is 15, judged last".
unfoldable pub Moves-write_refusal : List Rows → Bounds3f → ℕ → ℕ
Moves-write_refusal rows b room =
    cond (eqb (length rows) 0) 12 (first_refusal (Bounds3f-refusal b) (room_refusal room (length (Moves-text rows b))))

unfoldable pub Moves-write : List Rows → Bounds3f → ℕ → TextAnswer
Moves-write rows b room =
    let n = Moves-write_refusal rows b room in
    cond (eqb n 0) (written (Moves-text rows b)) (refused n)

-- 0 where nothing is refused
abbrev pub TextAnswer-refusal : TextAnswer → ℕ
TextAnswer-refusal (written text) = 0
TextAnswer-refusal (refused n) = n

abbrev pub TextAnswer-length : TextAnswer → ℕ
TextAnswer-length (written text) = length text
TextAnswer-length (refused n) = 0

-- "fills the front of a lent buffer, .. and keeps the bytes behind it"; a refusal leaves it as it came
abbrev pub TextAnswer-left : TextAnswer → List ℕ → List ℕ
TextAnswer-left (written text) old = text_left text old
TextAnswer-left (refused n) old = old
