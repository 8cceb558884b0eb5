-- `put_parts` puts two whole numbers and the rows.
use mathlib.Core.List.{[], ◌++◌}
use lib.Ieee.{nan}
use lib.ListN.{get_or}
use Rattle.motion_parts.specs.Parts.{flag_pieces, row_pieces, parts_pieces}
use Rattle.answer_lines.proofs.Pieces.{all_append}
use Rattle.motion_parts.proofs.put_parts.Goals as goal

pub returns : goal.returns
unfolding parts_pieces
returns c = let a = c.args in let last = get_or a.motion.now 43 [] in let animated = flag_pieces (get_or last 0 nan) in let rotates = flag_pieces (get_or last 1 nan) in let rows = row_pieces a.motion.now 0 in let all = all_append animated (rotates ++ rows) a.out.now _ _ a.at _ _
    (c.put_flag-next.ensures.value, c.put_flag-next.ensures.left)
    (all_append rotates rows _ _ _ _ _ _
    (c.put_flag-start.ensures.value, c.put_flag-start.ensures.left)
    (c.put_part_rows.ensures.value, c.put_part_rows.ensures.left)) in record { value = all.0; left = all.1 }
