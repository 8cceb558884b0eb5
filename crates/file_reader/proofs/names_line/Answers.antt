-- `names_line` is `after_line` for a line of names: the slice that it tests is the line (`after-fits`,
-- `after-unfit`), or the place lies past the end (`after-unended`).
use native.Mathlib.Omega.{arith}
use mathlib.Core.Path.{sym, ◌∙◌}
use Rattle.motion_file.specs.Layout.{names}
use Rattle.motion_file.proofs.Lines.{after-fits, after-unfit, after-unended}
use Rattle.file_reader.proofs.names_line.Goals as goal

pub returns-then-is_names : goal.returns-then-is_names
returns-then-is_names c =
    let a = c.args in
    let end = c.line_end-end in
    c.after_line_feed.ensures
    ∙ after-fits (names a.text.now) a.s.now a.at end.result end.ensures (sym c.is_names.ensures.value ∙ c.if-is_names.true)

pub returns-else-is_names : goal.returns-else-is_names
returns-else-is_names c =
    let a = c.args in
    let end = c.line_end-end in
    after-unfit (names a.text.now) a.s.now a.at end.result end.ensures (sym c.is_names.ensures.value ∙ c.if-is_names.false)

pub returns-else-end-s : goal.returns-else-end-s
returns-else-end-s c =
    let a = c.args in
    let end = c.line_end-end in
    after-unended (names a.text.now) a.s.now a.at end.result end.ensures (omega arith)
