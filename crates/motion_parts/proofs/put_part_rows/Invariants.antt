-- `put_part_rows` puts the rows of the parts. The invariant: what is left from the k-th row on, put from `end` on, makes the whole.
use mathlib.Core.Path.{◌≡◌}
use Rattle.answer_lines.specs.Pieces.{put_all, behind_all}
use Rattle.motion_parts.specs.Parts.{row_pieces}
use Rattle.motion_parts.proofs.put_part_rows.Given as goal

abbrev pub invariant-loop-i : goal.invariant-loop-i
invariant-loop-i l =
    (behind_all (row_pieces l.motion l.i-index) l.out l.end ≡ behind_all (row_pieces l.motion 0) l.initial.out l.at)
    × (put_all (row_pieces l.motion l.i-index) l.out l.end ≡ put_all (row_pieces l.motion 0) l.initial.out l.at)
