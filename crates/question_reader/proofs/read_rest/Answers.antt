-- `read_rest` is by its tests.
use native.Mathlib.Omega.{arith}
use mathlib.Core.Path.{sym, ◌∙◌}
use Rattle.question_reader.proofs.Lines.{Rest, rest-past, rest-unfit, rest_read, rest-malformed}
use Rattle.question_reader.proofs.read_rest.Goals as goal

pub returns-then-line-at : goal.returns-then-line-at
returns-then-line-at c =
    let a = c.args in
    let all : Rest a.line.now a.at a.kind a.rigid a.shape a.values.now c.none.result a.values.now =
    rw c.none.ensures (rest-past a.line.now a.at a.kind a.rigid a.shape a.values.now c.if-line-at.true) in
    record { value = all.0; left = all.1 }

pub returns-then-not-shape_fits : goal.returns-then-not-shape_fits
returns-then-not-shape_fits c =
    let a = c.args in
    let all : Rest a.line.now a.at a.kind a.rigid a.shape a.values.now c.none-then-not-shape_fits.result a.values.now =
    rw c.none-then-not-shape_fits.ensures
    (rest-unfit a.line.now a.at a.kind a.rigid a.shape a.values.now (omega arith) (sym c.shape_fits.ensures ∙ c.if-not-shape_fits.true)) in
    record { value = all.0; left = all.1 }

pub returns-then-read_floats : goal.returns-then-read_floats
returns-then-read_floats c =
    let a = c.args in
    let read = rw c.part.ensures.value at c.read_floats.ensures.value in
    let stored = rw c.part.ensures.value at c.read_floats.ensures.left in
    let all = rest_read a.line.now a.at a.kind a.rigid a.shape a.values.now
    _ (omega arith) (sym c.shape_fits.ensures ∙ c.if-not-shape_fits.false) (sym read ∙ c.if-read_floats.true) stored in
    record { value = all.0; left = all.1 }

pub returns : goal.returns
returns c =
    let a = c.args in
    let read = rw c.part.ensures.value at c.read_floats.ensures.value in
    let stored = rw c.part.ensures.value at c.read_floats.ensures.left in
    let all = rest-malformed a.line.now a.at a.kind a.rigid a.shape a.values.now
    _ (omega arith) (sym c.shape_fits.ensures ∙ c.if-not-shape_fits.false) (sym read ∙ c.if-read_floats.false) stored in
    record { value = rw c.none-2.ensures all.0; left = all.1 }
