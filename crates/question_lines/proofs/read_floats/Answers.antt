-- `read_floats` reads float by float. The invariant: the rest of the text gives what the text gives.
use Prim.Native.Nat.{◌-◌}
use native.Mathlib.Omega.{arith}
use mathlib.Core.Path.{◌≡◌, sym, ◌∙◌, ap}
use Rattle.question_lines.specs.Words.{floats_from, stored_from}
use Rattle.question_lines.proofs.Floats.{read-on, stored_on, read_off, stored-off, read-end, stored-end, fit, few, other-size}
use Rattle.question_lines.proofs.read_floats.Goals as goal

pub returns-then-values-count : goal.returns-then-values-count
returns-then-values-count c = let a = c.args in let all = few a.text.now a.count a.values.now c.if-values-count.true in record { value = all.0; left = all.1 }

pub returns-then-text-count : goal.returns-then-text-count
returns-then-text-count c = let a = c.args in let all = other-size a.text.now a.count a.values.now (omega arith) (λ e. omega (arith, e, c.if-text-count.true)) in record { value = all.0; left = all.1 }

pub returns-then-text-count-2 : goal.returns-then-text-count-2
returns-then-text-count-2 c = let a = c.args in let all = other-size a.text.now a.count a.values.now (omega arith) c.if-text-count-2.true in record { value = all.0; left = all.1 }

pub loop-k-init : goal.loop-k-init
loop-k-init c =
    let a = c.args in
    let all : a.count - 0 ≡ a.count = omega arith in
    (ap (λ n. floats_from n 0 a.text.now) all, ap (λ n. stored_from n 0 a.text.now a.values.now) all)

pub returns-in-None : goal.returns-in-None
returns-in-None c = let a = c.args in let l = c.loop-k in let text = a.text.now in let e = sym c.read_float.ensures ∙ c.in-None.is in let all = fit text a.count a.values.now _ _ (omega arith) (omega arith)
    (read_off text l.values a.count l.k (omega arith) e ∙ l.invariant.0)
    (stored-off text l.values a.count l.k (omega arith) e ∙ l.invariant.1) in record { value = all.0; left = all.1 }

pub loop-k-preserved : goal.loop-k-preserved
loop-k-preserved c =
    let a = c.args in
    let l = c.loop-k in
    let text = a.text.now in
    let e = sym c.read_float.ensures ∙ c.in-Some.is in
    let read = sym (read-on text l.values a.count l.k (omega arith) c.in-Some.bits e) ∙ l.invariant.0 in
    let stored = sym (stored_on text l.values a.count l.k (omega arith) c.in-Some.bits e) ∙ l.invariant.1 in
    (read, rw c.float_of_bits.ensures.value stored)

pub returns : goal.returns
returns c = let a = c.args in let l = c.loop-k in let text = a.text.now in let none : a.count - l.k ≡ 0 = omega arith in let all = fit text a.count a.values.now _ _ (omega arith) (omega arith)
    (read-end text l.k ∙ rw none at l.invariant.0)
    (stored-end text l.values l.k ∙ rw none at l.invariant.1) in record { value = all.0; left = all.1 }
