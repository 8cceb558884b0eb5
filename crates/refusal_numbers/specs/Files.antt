-- What is promised of every answer about a move file that is written: which numbers the writer gives, 0 being none, whatever the rows,
-- the box and the buffer, and with which the program `rewrite` refuses a file, whatever its bytes. The statement of `every-file-answer`.
use Rattle.std.specs.Prelude.{ℕ, ◌≡◌, List, [], ◌∷◌}
use Rattle.run_schedule.specs.matrix4x4.Rows.{Rows}
use Rattle.run_schedule.specs.bounds3.declared.Bounds3f.{Bounds3f}
use Rattle.run_schedule.specs.transform.Answer.{OneOf}
use Rattle.file_rewrite.specs.motion_text.Answer.{refusal_text}
use Rattle.file_rewrite.specs.file_text.Text.{MoveFile-written}
use Rattle.file_rewrite.specs.chain_text.Write.{Moves-write, TextAnswer-refusal}
use Rattle.file_rewrite.specs.Rewrite.{rewritten_text}

-- The file's written form is printed, or the refusal with one of the numbers.
pub data Rewritten-Numbered (numbers bytes : List ℕ) : Type 0 where
  form : rewritten_text bytes ≡ MoveFile-written bytes → Rewritten-Numbered numbers bytes
  number : (n : ℕ) → OneOf n numbers → rewritten_text bytes ≡ refusal_text n → Rewritten-Numbered numbers bytes

pub record EveryFileAnswer : Type 0 where
  -- no moves are 12
  pub writing : (rows : List Rows) (b : Bounds3f) (room : ℕ) → OneOf (TextAnswer-refusal (Moves-write rows b room)) (0 ∷ 6 ∷ 7 ∷ 12 ∷ 15 ∷ [])
  -- a file's bottom rows are 0 0 0 1, so that 2 is not among its numbers
  pub rewriting : (bytes : List ℕ) → Rewritten-Numbered (1 ∷ 3 ∷ 4 ∷ 5 ∷ 6 ∷ 7 ∷ 11 ∷ 12 ∷ 16 ∷ []) bytes
