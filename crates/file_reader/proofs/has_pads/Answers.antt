-- `has_pads` asks the first piece of the file (`split-first`), which ends in it (`position-bound`).
use Prim.Native.Nat.{ℕ, ◌+◌}
use native.Mathlib.Omega.{arith}
use mathlib.Core.Path.{◌≡◌, ap, ◌∙◌}
use mathlib.Core.List.{List}
use Rattle.motion_file.specs.hexadecimal.Digit.{position}
use Rattle.motion_file.proofs.hexadecimal.Digits.{position-bound}
use Rattle.motion_file.specs.Text.{ascii, line_feed}
use Rattle.motion_file.specs.Layout.{names, padded_names, fits, has_pads}
use Rattle.motion_file.proofs.Pieces.{split-first}
use Rattle.motion_file.proofs.Lines.{line-slice}
use Rattle.file_reader.proofs.has_pads.Goals as goal

pub returns-then-end-s : goal.returns-then-end-s
unfolding has_pads ascii
returns-then-end-s c =
    let s = c.args.s.now in
    rw (split-first line_feed s).1
    (c.is_names.ensures.value ∙ ap (λ (l : List ℕ). fits (names padded_names) l) (line-slice s 0 c.line_end-end.result c.line_end-end.ensures))

pub returns : goal.returns
returns c =
    let s = c.args.s.now in
    let end : c.line_end-end.result ≡ 0 + position line_feed s = c.line_end-end.ensures in
    absurd (omega (arith, position-bound line_feed s, end, c.if-end-s.false))
