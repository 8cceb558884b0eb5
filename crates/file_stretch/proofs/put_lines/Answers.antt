-- `put_lines` writes the word, and behind it the two numbers with what stands between and behind them (`lines-written`).
use mathlib.Core.Path.{refl}
use borrow.Author.Rules.{rules}
use Rattle.motion_text.specs.motion_file.Text.{ascii}
use Rattle.file_stretch.proofs.Lines.{digits_are, lines-written}
use Rattle.file_stretch.proofs.put_lines.Goals as goal

pub returns : goal.returns
unfolding ascii
returns c =
    let a = c.args in
    let first = c.zeros_in_front-a in
    let last = c.zeros_in_front-b in
    let all =
    lines-written a.first a.last first.result last.result first.ensures.value
    last.ensures.value first.ensures.bound last.ensures.bound a.out.now _ _ _ _
    (digits_are a.first _ _ _ _ c.requires.first_bound c.digit.ensures.value c.digit-2.ensures.value c.digit-3.ensures.value)
    (digits_are a.last _ _ _ _ c.requires.last_bound c.digit-4.ensures.value c.digit-5.ensures.value c.digit-6.ensures.value) c.requires.in_bounds
    c.write_text.ensures.text refl in
    record { value = all.0; text = rw c.put_two.ensures all.1.0; bound = all.1.1 }
