-- What the library's functions over move files answer, from the arrays that they are lent. Definitions only.
use Rattle.std.specs.Prelude.{ℕ, cond, List, eqb, Float}
use Rattle.file_reader.specs.matrix4x4.Rows.{Rows}
use Rattle.file_reader.specs.bounds3.List.{Bounds3f-of_list}
use Rattle.file_reader.specs.motion_file.declared.MoveFile.{MoveFile}
use Rattle.chain_text.specs.Write.{TextAnswer, Moves-write}

-- the lent box after a file was read: a refusal leaves it as it was
unfoldable pub MoveFile-bounds_left : MoveFile → List Float → List Float
MoveFile-bounds_left file old = cond (eqb file.refusal 0) file.bounds old

abbrev pub Moves-written : List Rows → List Float → ℕ → TextAnswer
Moves-written rows b room = Moves-write rows (Bounds3f-of_list b) room
