-- `put_run` meets its contract: the run's number and its length choose the case (proofs/Printed.antt).
use native.Mathlib.Omega.{arith}
use mathlib.Core.Path.{refl}
use borrow.Author.Rules.{rules}
use Rattle.motion_text.specs.motion_file.Text.{ascii}
use Rattle.motion_text.specs.Answer.{refusal_text}
use Rattle.motion_text.proofs.Written.{refusal-bound}
use Rattle.file_stretch.proofs.Printed.{refusal-put, part_room, run-refused, run-accepted, run-lines}
use Rattle.file_stretch.proofs.put_run.Goals as goal

pub returns-then-run-ne0 : goal.returns-then-run-ne0
returns-then-run-ne0 c =
    let a = c.args in
    let write = c.write_refusal in
    let same = run-refused a.number a.run c.if-run-ne0.true in
    let all = refusal-put a.run.refusal a.out.now _ _ c.requires.in_bounds write.ensures.value write.ensures.text in
    record { value = rw same all.0; text = rw same all.1.0; bound = all.1.1 }

pub returns-then-run-eq0 : goal.returns-then-run-eq0
unfolding ascii
returns-then-run-eq0 c = let a = c.args in let write = c.write_text in let all = run-accepted a.number a.run a.out.now _ _ c.if-run-ne0.false c.if-run-eq0.true c.requires.in_bounds write.ensures.value write.ensures.text in record { value = all.0; text = all.1.0; bound = all.1.1 }

pub put_lines-m-requires : goal.put_lines-m-requires
put_lines-m-requires c = let a = c.args in let write = c.write_refusal-n in let counted = (refusal-put a.number a.out.now _ _ c.requires.in_bounds write.ensures.value write.ensures.text).0 in let few = refusal-bound a.number in record { first_bound = omega (arith, c.requires.length_bound); last_bound = omega (arith, c.requires.length_bound); in_bounds = part_room (refusal_text a.number) a.out.now _ _ (omega (arith, counted, few)) c.requires.in_bounds write.ensures.text }

pub returns : goal.returns
returns c =
    let a = c.args in
    let write = c.write_refusal-n in
    let lines = c.put_lines-m in
    let all =
    run-lines a.number a.run a.out.now _ _ _ _ c.if-run-ne0.false c.if-run-eq0.false
    c.requires.in_bounds write.ensures.value write.ensures.text lines.ensures.value
    lines.ensures.bound refl in
    record { value = all.0; text = rw lines.ensures.text all.1.0; bound = all.1.1 }
