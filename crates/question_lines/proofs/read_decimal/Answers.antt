-- `read_decimal` reads digit by digit. The invariant: the rest of the word behind the value gives what the word gives.
use native.Mathlib.Omega.{arith}
use mathlib.Core.Path.{refl, sym, ◌∙◌}
use Rattle.question_lines.proofs.Decimals.{append-on, append-off, append-end, read_none, read_some}
use Rattle.question_lines.proofs.read_decimal.Goals as goal

pub returns-then-word-eq0 : goal.returns-then-word-eq0
returns-then-word-eq0 c = record { value = read_none c.args.word.now c.if-word-eq0.true }

pub loop-b-init : goal.loop-b-init
loop-b-init c = refl

pub returns-in_err-value : goal.returns-in_err-value
returns-in_err-value c = record {
  value = let word = c.args.word.now in
      let l = c.loop-b in
      let e = sym c.append_digit.ensures.value ∙ c.in_err-value.was in
      c.from_residual.ensures ∙ sym (append-off word l.value l.b-index (omega arith) e) ∙ l.invariant ∙ read_some word c.if-word-eq0.false;
}

pub loop-b-preserved : goal.loop-b-preserved
loop-b-preserved c =
    let word = c.args.word.now in
    let l = c.loop-b in
    let e = sym c.append_digit.ensures.value ∙ c.in_ok-value.was in
    sym (append-on word l.value l.b-index (omega arith) c.in_ok-value.value e) ∙ l.invariant

pub returns : goal.returns
returns c = record {
  value = let word = c.args.word.now in
      let l = c.loop-b in
      append-end word l.value l.b-index (omega arith) ∙ l.invariant ∙ read_some word c.if-word-eq0.false;
}
