-- `put_pose` writes a line into the part of the buffer from `at` on (`part-front`). The pose, by value, is 18 floats (`array-floats`).
use native.Mathlib.Omega.{arith}
use borrow.Author.Rules.{rules}
use Rattle.lent_arrays.specs.Arrays.{Pose-of_list}
use Rattle.motion_text.proofs.Written.{length-values}
use Rattle.file_text.specs.Text.{values_text}
use Rattle.chain_text.specs.Write.{Pose-values}
use Rattle.chain_text.proofs.Parts.{part-front}
use Rattle.chain_text.proofs.Floats.{array-floats}
use Rattle.chain_text.proofs.put_pose.Goals as goal

pub returns : goal.returns
returns c = let a = c.args in let values = Pose-values (Pose-of_list a.pose) in let (words, (shape, each)) = c.well_formed.0 in record {
  left = rw (c.write_values.ensures.text, c.line_values.ensures)
      (part-front (values_text values) a.out.now a.at 126 (omega (arith, length-values values)) c.requires);
  floats = array-floats a.pose words 18 shape.1 each;
}
