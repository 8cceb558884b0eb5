-- `write_word` is `Word-write`. The invariant: the first i of the eight digits stand in the list from the place on.
use Prim.Native.Nat.{◌+◌}
use native.Mathlib.Omega.{arith}
use mathlib.Core.Path.{◌≡◌, refl, sym, ◌∙◌}
use lib.ListN.{length, length-set}
use lib.Seq.{paste-zero}
use borrow.Author.Tests.{le-leb, lt-leb}
use Rattle.hexadecimal.specs.Word.{digits}
use Rattle.hexadecimal.proofs.Words.{digits-store, write-fits, write-short}
use Rattle.hexadecimal.proofs.write_word.Goals as goal

pub returns-then-out-lt8 : goal.returns-then-out-lt8
returns-then-out-lt8 c = let a = c.args in record { value = write-short a.out.now a.at a.n (omega arith); fits = sym (lt-leb (a.at + 8) (length a.out.now) (omega arith)) }

pub overflow_sub-out : goal.overflow_sub-out
overflow_sub-out c = omega arith

pub returns-then-out-at : goal.returns-then-out-at
returns-then-out-at c = let a = c.args in record { value = write-short a.out.now a.at a.n (omega arith); fits = sym (lt-leb (a.at + 8) (length a.out.now) (omega arith)) }

pub loop-i-init : goal.loop-i-init
loop-i-init c =
    let a = c.args in
    (omega arith, omega arith, refl, paste-zero a.out.now a.at (digits 8 a.n))

pub overflow_mul-i : goal.overflow_mul-i
overflow_mul-i c = omega arith

pub overflow_sub-i : goal.overflow_sub-i
overflow_sub-i c = omega arith

pub overflow_cast-i : goal.overflow_cast-i
overflow_cast-i c = omega arith

pub overflow_shr-n : goal.overflow_shr-n
overflow_shr-n c = omega arith

pub overflow_add-out : goal.overflow_add-out
overflow_add-out c = omega arith

pub bounds-out-at : goal.bounds-out-at
bounds-out-at c = omega arith

pub overflow_step-i : goal.overflow_step-i
overflow_step-i c = omega arith

pub loop-i-smaller : goal.loop-i-smaller
loop-i-smaller c = omega arith

pub loop-i-preserved : goal.loop-i-preserved
loop-i-preserved c =
    let a = c.args in
    let l = c.loop-i in (
      omega arith,
      l.invariant.1,
      length-set l.out (a.at + l.i) c.digit.result ∙ l.invariant.2,
      digits-store a.out.now l.out a.at a.n l.i c.digit.result (omega arith) l.invariant.1 l.invariant.3 c.digit.ensures.value,
    )

pub returns : goal.returns
returns c = let a = c.args in let l = c.loop-i in let e : l.i ≡ 8 = omega arith in record { value = rw e at l.invariant.3 ∙ write-fits a.out.now a.at a.n l.invariant.1; fits = sym (le-leb (a.at + 8) (length a.out.now) l.invariant.1) }
