-- `read_half` is `number_or` of four bytes: their values are tested and weighed one by one (`half-digits`).
use native.Mathlib.Omega.{arith}
use Rattle.hexadecimal.proofs.Words.{half-digits}
use Rattle.hexadecimal.proofs.read_half.Goals as goal

pub returns-then-a-b : goal.returns-then-a-b
returns-then-a-b c = record {
  value = let a = c.args in
      rw c.if-a-b.true at
      (half-digits a.s.now a.at _ _ _ _ (omega arith)
      c.digit_value-a.ensures.value
      c.digit_value-b.ensures.value
      c.digit_value-c.ensures.value
      c.digit_value-d.ensures.value);
}

pub returns : goal.returns
returns c = record {
  value = let a = c.args in
      rw c.if-a-b.false at
      (half-digits a.s.now a.at _ _ _ _ (omega arith)
      c.digit_value-a.ensures.value
      c.digit_value-b.ensures.value
      c.digit_value-c.ensures.value
      c.digit_value-d.ensures.value);
}
