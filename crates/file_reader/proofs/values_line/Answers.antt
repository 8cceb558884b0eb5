-- `values_line` is `after_line` for a line of values, as `names_line` is for names; what it leaves in `out` are the values of the line.
use native.Mathlib.Omega.{arith}
use mathlib.Core.Path.{sym, ◌∙◌, ap}
use lib.ListN.{length}
use Rattle.motion_file.specs.Layout.{values, values_of}
use Rattle.file_lines.specs.Values.{values_left}
use Rattle.motion_file.proofs.Lines.{line-slice, after-fits, after-unfit, after-unended}
use Rattle.file_reader.proofs.values_line.Goals as goal

pub returns-then-read_values : goal.returns-then-read_values
unfolding values_left
returns-then-read_values c = let a = c.args in let end = c.line_end-end in let read = c.read_values in let kept = sym read.ensures.value ∙ c.if-read_values.true in record { value = c.after_line_feed.ensures ∙ after-fits (values (length a.out.now)) a.s.now a.at end.result end.ensures kept; out_after = λ h. rw kept at read.ensures.left ∙ ap values_of (line-slice a.s.now a.at end.result end.ensures) }

pub returns-else-read_values : goal.returns-else-read_values
returns-else-read_values c = let a = c.args in let end = c.line_end-end in record {
  value = after-unfit (values (length a.out.now)) a.s.now a.at end.result end.ensures
      (sym c.read_values.ensures.value ∙ c.if-read_values.false);
  out_after = λ h. absurd (omega arith);
}

pub returns-else-end-s : goal.returns-else-end-s
returns-else-end-s c = let a = c.args in let end = c.line_end-end in record { value = after-unended (values (length a.out.now)) a.s.now a.at end.result end.ensures (omega arith); out_after = λ h. absurd (omega arith) }
