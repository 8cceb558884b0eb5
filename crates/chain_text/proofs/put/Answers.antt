-- `put` puts the text in four pieces: the names, the first pose, the moves' ends and the box (`put_all`); their values are 32-bit floats (`lines-floats`).
use mathlib.Core.Path.{◌∙◌}
use borrow.Author.Rules.{rules}
use Rattle.motion_text.specs.motion_file.Text.{ascii}
use Rattle.chain_text.proofs.Pieces.{put_all}
use Rattle.chain_text.proofs.Floats.{lines-floats}
use Rattle.chain_text.proofs.put.Goals as goal

pub returns : goal.returns
unfolding ascii
returns c = let a = c.args in record {
  left = put_all a.moves.now a.b c.requires.moves_nonzero a.out.now c.requires.moves_in_bounds c.start_pose.ensures.value _ _ _ _ c.write_text.ensures.text
      c.put_pose.ensures.left c.put_ends.ensures.left c.put_bounds.ensures;
  floats = lines-floats a.moves.now _ c.requires.moves_nonzero c.start_pose.ensures.value c.put_pose.ensures.floats c.put_ends.ensures.floats;
}
