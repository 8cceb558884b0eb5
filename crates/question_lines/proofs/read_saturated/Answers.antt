-- `read_saturated` reads digit by digit and holds what is read below 2^32. The invariant: the rest of the word is digits where the word is, and with them
-- behind the value the same number is held.
use native.Mathlib.Omega.{arith}
use mathlib.Core.Path.{refl, sym, ◌∙◌}
use Rattle.question_lines.proofs.HeldNumbers.{held_small, saturated-on, saturated-off, saturated-end, saturated-none, saturated-some}
use Rattle.question_lines.proofs.read_saturated.Goals as goal

pub returns-then-word-eq0 : goal.returns-then-word-eq0
returns-then-word-eq0 c = record { value = saturated-none c.args.word.now c.if-word-eq0.true }

pub loop-b-init : goal.loop-b-init
loop-b-init c = (omega arith, (refl, refl))

pub returns-in_err-append_digit : goal.returns-in_err-append_digit
returns-in_err-append_digit c = record {
  value = let word = c.args.word.now in
      let l = c.loop-b in
      let e = sym c.append_digit.ensures.value ∙ c.in_err-append_digit.was in
      let none = sym l.invariant.1.0 ∙ saturated-off word l.value l.b-index (omega arith) l.invariant.0 e in
      c.from_residual.ensures ∙ rw (saturated-some word c.if-word-eq0.false, none);
}

pub loop-b-preserved : goal.loop-b-preserved
loop-b-preserved c =
    let word = c.args.word.now in
    let l = c.loop-b in
    let e = sym c.append_digit.ensures.value ∙ c.in_ok-append_digit.was in
    let on = saturated-on word l.value l.b-index (omega arith) c.in_ok-append_digit.field-0 e in
    rw c.saturated-value.ensures.value (held_small c.in_ok-append_digit.field-0, (sym on.0 ∙ l.invariant.1.0, sym on.1 ∙ l.invariant.1.1))

pub returns : goal.returns
returns c = record {
  value = let word = c.args.word.now in
      let l = c.loop-b in
      let end = saturated-end word l.value l.b-index (omega arith) l.invariant.0 in
      rw (saturated-some word c.if-word-eq0.false, ← l.invariant.1.0, end.0, ← l.invariant.1.1, end.1);
}
