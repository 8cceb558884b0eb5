-- `read_kind` is by its tests.
use native.Mathlib.Omega.{arith}
use mathlib.Core.Path.{◌≡◌}
use Rattle.question_lines.specs.motion_file.Text.{ascii}
use Rattle.question_reader.specs.Question.{kind_place}
use Rattle.question_reader.proofs.Lines.{kind-unasked, kind-other, kind-word, kind-past}
use Rattle.question_reader.proofs.read_kind.Goals as goal

pub returns-then-words-eq0 : goal.returns-then-words-eq0
returns-then-words-eq0 c =
    let a = c.args in
    kind-unasked a.words a.line.now a.at c.if-words-eq0.true

pub returns-then-line-at : goal.returns-then-line-at
returns-then-line-at c =
    let a = c.args in
    let none = kind-past a.words a.line.now a.at (omega (arith, c.if-line-at.true)) in
    kind-other a.words a.line.now a.at c.if-words-eq0.false (omega (arith, none))

pub returns-then-place-ge2 : goal.returns-then-place-ge2
unfolding ascii
returns-then-place-ge2 c =
    let a = c.args in
    let place : c.position-place.result ≡ kind_place a.line.now a.at =
    rw c.word_end-end.ensures.value at (rw c.part.ensures.value at c.position-place.ensures.value) in
    kind-other a.words a.line.now a.at c.if-words-eq0.false (omega (arith, place, c.if-place-ge2.true))

pub returns : goal.returns
unfolding ascii
returns c =
    let a = c.args in
    let place : c.position-place.result ≡ kind_place a.line.now a.at =
    rw c.word_end-end.ensures.value at (rw c.part.ensures.value at c.position-place.ensures.value) in
    rw (c.word_end-end.ensures.value, place) (kind-word a.words a.line.now a.at c.if-words-eq0.false (omega (arith, place, c.if-place-ge2.false)))
