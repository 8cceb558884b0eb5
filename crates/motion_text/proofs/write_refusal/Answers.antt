-- `write_refusal` writes `refusal_text` in two pieces, the word and the number (`wrote-two`).
use Prim.Native.Nat.{ℕ, ◌-◌, ◌<◌}
use native.Mathlib.Omega.{arith}
use mathlib.Core.Path.{◌≡◌, refl}
use mathlib.Core.List.{List, [], ◌∷◌, ◌++◌}
use lib.ListN.{length, take, drop}
use Rattle.motion_file.specs.Text.{ascii, line_feed}
use Rattle.motion_text.specs.Answer.{three_digits, refusal_text}
use Rattle.motion_text.proofs.Pastes.{Wrote, wrote_none, wrote-two}
use Rattle.motion_text.proofs.Written.{number-line, length-number, length-refusal}
use Rattle.motion_text.proofs.write_refusal.Goals as goal

pub returns-then-out-size : goal.returns-then-out-size
returns-then-out-size c =
    let a = c.args in
    let zeros = c.zeros_in_front-zeros in
    let all = wrote_none (refusal_text a.number) a.out.now
    (rw (length-refusal a.number zeros.result zeros.ensures.value zeros.ensures.bound) c.if-out-size.true) in
    record { value = all.0; text = all.1.0; counts = all.1.1 }

pub returns : goal.returns
unfolding refusal_text ascii
returns c =
    let a = c.args in
    let zeros = c.zeros_in_front-zeros in
    let line : List ℕ = take (4 - zeros.result) (drop zeros.result (three_digits a.number ++ (line_feed ∷ []))) in
    let cut : line ≡ drop zeros.result (three_digits a.number) ++ (line_feed ∷ []) = number-line zeros.result a.number zeros.ensures.bound in
    let all : Wrote (ascii "refused\n" ++ line) a.out.now c.put-2.new.out (12 - zeros.result) =
    wrote-two (ascii "refused\n") line a.out.now _ _ 8 (length line) (12 - zeros.result) refl refl
    (rw (cut, length-number zeros.result a.number zeros.ensures.bound) (omega (arith, zeros.ensures.bound)))
    c.if-out-size.false
    c.put.ensures
    c.put-2.ensures in
    record {
      value = rw (← zeros.ensures.value, ← cut) all.0;
      text = rw (← zeros.ensures.value, ← cut) all.1.0;
      counts = all.1.1;
    }
