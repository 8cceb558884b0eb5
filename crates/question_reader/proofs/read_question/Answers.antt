-- `read_question` is by its tests, and behind them what `read_decimals`, `read_kind` and `read_rest` give.
use native.Mathlib.Omega.{arith}
use mathlib.Core.Path.{◌≡◌}
use Rattle.question_reader.specs.Question.{name_kind}
use Rattle.question_reader.proofs.Lines.{line-long, line-unnamed, line-named}
use Rattle.question_reader.proofs.read_question.Goals as goal

pub returns-then-most-line : goal.returns-then-most-line
returns-then-most-line c =
    let a = c.args in
    let all = line-long a.most a.names.now a.shapes.now a.line.now a.wholes.now a.values.now c.if-most-line.true in
    record { value = rw c.none.ensures all.0; wholes = all.1.0; values = all.1.1 }

pub returns-then-shapes-kind : goal.returns-then-shapes-kind
returns-then-shapes-kind c =
    let a = c.args in
    let kind : c.position-kind.result ≡ name_kind a.most a.names.now a.shapes.now a.line.now =
    rw c.word_end-end.ensures.value at (rw c.part.ensures.value at c.position-kind.ensures.value) in
    let all = line-unnamed a.most a.names.now a.shapes.now a.line.now a.wholes.now a.values.now
    (omega arith) (omega (arith, kind, c.if-shapes-kind.true)) in
    record { value = rw c.none-then-shapes-kind.ensures all.0; wholes = all.1.0; values = all.1.1 }

pub returns : goal.returns
returns c =
    let a = c.args in
    let kind : c.position-kind.result ≡ name_kind a.most a.names.now a.shapes.now a.line.now =
    rw c.word_end-end.ensures.value at (rw c.part.ensures.value at c.position-kind.ensures.value) in
    let wholes = rw (c.word_end-end.ensures.value, kind) at c.read_decimals-at.ensures.left in
    let word = rw (c.read_decimals-at.ensures.value, c.word_end-end.ensures.value, kind) at c.read_kind-k.ensures in
    let value = rw (word, kind) at c.read_rest.ensures.value in
    let stored = rw (word, kind) at c.read_rest.ensures.left in
    let all = line-named a.most a.names.now a.shapes.now a.line.now a.wholes.now a.values.now
    _ _ _ (omega arith) (omega (arith, kind, c.if-shapes-kind.false)) value wholes stored in
    record { value = all.0; wholes = all.1.0; values = all.1.1 }
