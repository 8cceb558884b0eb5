-- `read_decimals` reads number by number. The invariant: what is left of the line gives what the line gives.
use Prim.Native.Nat.{ℕ, ◌-◌}
use native.Mathlib.Omega.{arith}
use mathlib.Core.Path.{◌≡◌, sym, ◌∙◌, ap}
use Rattle.question_reader.specs.Question.{decimals_end, decimals_stored}
use Rattle.question_reader.proofs.Words.{decimal-past, end_on, stored_on, end-off, stored-off, end_none, stored-none, few, many}
use Rattle.question_reader.proofs.read_decimals.Goals as goal

pub returns-then-count-gt4 : goal.returns-then-count-gt4
returns-then-count-gt4 c = let a = c.args in let all = many a.count a.line.now a.at a.wholes.now c.if-count-gt4.true in record { value = all.0; left = all.1 }

pub loop-k-init : goal.loop-k-init
loop-k-init c =
    let a = c.args in
    let all : a.count - 0 ≡ a.count = omega arith in (
      omega arith,
      ap (λ (n : ℕ). decimals_end n a.line.now a.at) all,
      ap (λ (n : ℕ). decimals_stored n 0 a.line.now a.at a.wholes.now) all,
    )

pub returns-then-line-end : goal.returns-then-line-end
returns-then-line-end c = let a = c.args in let l = c.loop-k in let line = a.line.now in let e = decimal-past line l.end (omega (arith, c.if-line-end.true)) in let all = few a.count line a.at a.wholes.now _ _ l.invariant.0
    (end-off line l.wholes a.count l.k l.end (omega arith) e ∙ l.invariant.1)
    (stored-off line l.wholes a.count l.k l.end (omega arith) e ∙ l.invariant.2) in record { value = all.0; left = all.1 }

pub returns-in-None : goal.returns-in-None
returns-in-None c = let a = c.args in let l = c.loop-k in let line = a.line.now in let e = rw (c.part.ensures.value, c.word_end-end.ensures.value) at (sym c.read_decimal.ensures.value ∙ c.in-None.is) in let all = few a.count line a.at a.wholes.now _ _ l.invariant.0
    (end-off line l.wholes a.count l.k l.end (omega arith) e ∙ l.invariant.1)
    (stored-off line l.wholes a.count l.k l.end (omega arith) e ∙ l.invariant.2) in record { value = all.0; left = all.1 }

pub loop-k-preserved : goal.loop-k-preserved
loop-k-preserved c =
    let a = c.args in
    let l = c.loop-k in
    let line = a.line.now in
    let e = rw (c.part.ensures.value, c.word_end-end.ensures.value) at (sym c.read_decimal.ensures.value ∙ c.in-Some.is) in (
      l.invariant.0,
      rw c.word_end-end.ensures.value (sym (end_on line l.wholes a.count l.k l.end (omega arith) c.in-Some.n e) ∙ l.invariant.1),
      rw c.word_end-end.ensures.value (sym (stored_on line l.wholes a.count l.k l.end (omega arith) c.in-Some.n e) ∙ l.invariant.2),
    )

pub returns : goal.returns
returns c = let a = c.args in let l = c.loop-k in let none : a.count - l.k ≡ 0 = omega arith in let all = few a.count a.line.now a.at a.wholes.now _ _ l.invariant.0
    (end_none a.line.now l.end ∙ rw none at l.invariant.1)
    (stored-none a.line.now l.wholes l.k l.end ∙ rw none at l.invariant.2) in record { value = all.0; left = all.1 }
